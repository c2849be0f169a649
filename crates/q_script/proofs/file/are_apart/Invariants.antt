use Rattle.std.proofs.Common.{length}
use Rattle.q_script.specs.File.{AreApart}
use Rattle.q_script.proofs.file.are_apart.Given as goal

-- what stands before is apart from all, so all depends on the rest
abbrev pub invariant-loop-rest : goal.invariant-loop-rest
invariant-loop-rest l = (AreApart l.rest → AreApart l.nodes) × (AreApart l.nodes → AreApart l.rest)

abbrev pub decreases-loop-rest : goal.decreases-loop-rest
decreases-loop-rest l = length l.rest
