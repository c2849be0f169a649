use Rattle.bq_asm.proofs.Repeating.{KeepsAt}
use Rattle.bq_asm.proofs.labels.first_repeated.Given as goal

abbrev pub invariant-loop-index : goal.invariant-loop-index
invariant-loop-index l = KeepsAt l.names l.lines l.index
