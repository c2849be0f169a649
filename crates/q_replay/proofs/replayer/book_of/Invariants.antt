use Rattle.std.proofs.Common.{length}
use Rattle.q_replay.specs.Replayed.{Leads}
use Rattle.q_replay.proofs.replayer.book_of.Given as goal

abbrev pub invariant-loop-rest : goal.invariant-loop-rest
invariant-loop-rest l = Leads l.bytes l.count l.book l.rest

abbrev pub decreases-loop-rest : goal.decreases-loop-rest
decreases-loop-rest l = length l.rest
