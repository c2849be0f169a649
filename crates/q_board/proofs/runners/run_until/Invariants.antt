use Rattle.std.proofs.Common.{◌≡◌}
use Rattle.q_board.proofs.runners.run_until.Given as goal

abbrev pub invariant-loop : goal.invariant-loop
invariant-loop g l = record { board : l.seat.table ≡ l.initial.seat.table }
