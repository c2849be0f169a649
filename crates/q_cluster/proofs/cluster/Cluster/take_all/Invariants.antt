use Rattle.std.proofs.Common.{take}
use Rattle.q_history.specs.Calls.{Reaches}
use Rattle.q_cluster.proofs.cluster.Cluster.take_all.Given as goal

abbrev pub invariant-loop-place : goal.invariant-loop-place
invariant-loop-place l = Reaches l.fn.self (take l.place l.events) l.self
