use Rattle.std.proofs.Common.{vec_len}
use Rattle.bq_asm.proofs.Resolving.{Solves}
use Rattle.bq_asm.proofs.labels.resolve.Given as goal

abbrev pub invariant-loop-line : goal.invariant-loop-line
invariant-loop-line l = Solves l.initial.lines.items l.lines.items l.labels l.total l.insns.items l.unresolved

abbrev pub decreases-loop-line : goal.decreases-loop-line
decreases-loop-line l = vec_len l.lines
