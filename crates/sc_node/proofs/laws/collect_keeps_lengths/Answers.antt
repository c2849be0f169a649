-- collect_keeps_lengths: a law: the same as a collect begins.
use Rattle.sc_node.proofs.Kept.{collect_kept}
use Rattle.sc_node.proofs.laws.collect_keeps_lengths.Goals as goal

pub returns : goal.returns
returns c = collect_kept
