use Rattle.q_gather.proofs.Agreeing.{DistinctBelow}
use Rattle.q_gather.proofs.heads.are_distinct.Given as goal

abbrev pub invariant-loop-place : goal.invariant-loop-place
invariant-loop-place l = DistinctBelow l.books l.place
