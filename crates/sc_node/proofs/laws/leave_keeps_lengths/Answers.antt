-- leave_keeps_lengths: a law: the same as a node leaves.
use Rattle.sc_node.proofs.Kept.{leave_kept}
use Rattle.sc_node.proofs.laws.leave_keeps_lengths.Goals as goal

pub returns : goal.returns
returns c = leave_kept
