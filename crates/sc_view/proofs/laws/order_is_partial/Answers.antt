-- order_is_partial: the order on views is a partial order.
use Rattle.sc_view.proofs.ViewLemmas.{covered_antisymmetric}
use Rattle.sc_view.proofs.laws.order_is_partial.Goals as goal

pub returns-clause-antisymmetric : goal.returns-clause-antisymmetric
returns-clause-antisymmetric c = covered_antisymmetric
