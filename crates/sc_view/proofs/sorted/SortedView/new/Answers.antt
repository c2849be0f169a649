-- SortedView::new: the view of no node.
use Rattle.sc_view.proofs.ViewLemmas.{empty_valid}
use Rattle.sc_view.proofs.sorted.SortedView.new.Goals as goal

pub invariant_of-result : goal.invariant_of-result
invariant_of-result c = rw c.new.ensures.empty empty_valid
