-- merge_takes_the_larger_number: a merge has for each node the larger of the two numbers.
use Rattle.sc_view.proofs.ViewLemmas.{number-merge}
use Rattle.sc_view.proofs.laws.merge_takes_the_larger_number.Goals as goal

pub returns : goal.returns
returns c = number-merge
