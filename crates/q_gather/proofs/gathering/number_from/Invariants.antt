use Rattle.std.proofs.Common.{take}
use Rattle.q_gather.specs.Numbers.{AreNumbers}
use Rattle.q_gather.proofs.gathering.number_from.Given as goal

abbrev pub invariant-loop-number : goal.invariant-loop-number
invariant-loop-number l = AreNumbers (take l.first l.cluster.past.sent) l.fn.numbers → AreNumbers (take l.number l.cluster.past.sent) l.numbers
