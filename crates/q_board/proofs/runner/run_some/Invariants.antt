use Rattle.std.proofs.Common.{◌≤◌}
use Rattle.q_board.specs.Served.{Served, Passed}
use Rattle.q_board.proofs.runner.run_some.Given as goal

abbrev pub invariant-loop : goal.invariant-loop
invariant-loop g l = record {
  served : Served l.initial.seat l.counter l.ran l.seat;
  passed : Passed (g.G.Gate.entered l.gate) (g.G.Gate.left l.gate) l.initial.seat.finished l.seat.finished;
  few : l.ran ≤ l.counter;
}
