use Rattle.std.proofs.Common.{◌≤◌}
use Rattle.q_board.specs.Turns.{Receiving}
use Rattle.q_board.proofs.pump.receive_all.Given as goal

abbrev pub invariant-loop-place : goal.invariant-loop-place
invariant-loop-place l = record { receiving : Receiving l.initial.seat l.initial.book l.place l.posted l.seat l.book; few : l.posted ≤ l.place }
