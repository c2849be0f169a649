-- delivery_keeps_lengths: a law: the same as a message is delivered whose values have those lengths.
use Rattle.sc_node.proofs.Kept.{delivery_kept}
use Rattle.sc_node.proofs.laws.delivery_keeps_lengths.Goals as goal

pub returns : goal.returns
returns c = delivery_kept
