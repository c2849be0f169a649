-- View::new: the view of no node.
use Rattle.sc_view.proofs.MapLemmas.{blank_held}
use Rattle.sc_view.proofs.view.View.new.Goals as goal

pub invariant_of-result : goal.invariant_of-result
invariant_of-result c = rw (c.push.ensures.items, c.new-row.ensures, c.default.ensures) blank_held
