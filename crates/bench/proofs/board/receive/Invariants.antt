use Rattle.std.proofs.Common.{◌≡◌}
use Rattle.bench.proofs.board.receive.Given as goal

abbrev pub invariant-loop-place : goal.invariant-loop-place
invariant-loop-place l = record { board : l.asker.table ≡ l.initial.asker.table }
