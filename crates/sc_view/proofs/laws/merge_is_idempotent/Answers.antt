-- merge_is_idempotent: to merge a view with itself, or twice with another, changes nothing more.
use Rattle.sc_view.proofs.ViewLemmas.{merge_self, merge_again}
use Rattle.sc_view.proofs.laws.merge_is_idempotent.Goals as goal

pub returns-clause-same : goal.returns-clause-same
returns-clause-same c = merge_self

pub returns-clause-again : goal.returns-clause-again
returns-clause-again c = merge_again
