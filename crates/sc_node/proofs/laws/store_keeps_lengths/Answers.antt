-- store_keeps_lengths: a law: what a node keeps and sends as a store of a value of one of those lengths begins.
use Rattle.sc_node.proofs.Kept.{store_kept}
use Rattle.sc_node.proofs.laws.store_keeps_lengths.Goals as goal

pub returns : goal.returns
returns c = store_kept
