-- hand_all: hands each job over; how many results came back.
use Rattle.std.proofs.Common.{arith}
use Rattle.bench.proofs.board.hand_all.Goals as goal

pub hand_one-requires-clause-lanes : goal.hand_one-requires-clause-lanes
hand_one-requires-clause-lanes c = omega (arith, c.requires.lanes, c.loop-job.invariant.number, c.loop-job.invariant.lanes)
