use Rattle.std.proofs.Common.{◌≡◌}
use Rattle.bench.proofs.board.offer_all.Given as goal

abbrev pub invariant-loop-job : goal.invariant-loop-job
invariant-loop-job g l = record { board : l.asker.table ≡ l.initial.asker.table }

abbrev pub invariant-loop : goal.invariant-loop
invariant-loop g l = record { board : l.asker.table ≡ l.initial.asker.table }

abbrev pub invariant-loop-2 : goal.invariant-loop-2
invariant-loop-2 g l = record { board : l.asker.table ≡ l.initial.asker.table }
