use Rattle.std.proofs.Common.{◌≡◌}
use Rattle.bench.proofs.board.hand_all.Given as goal

abbrev pub invariant-loop-job : goal.invariant-loop-job
invariant-loop-job l = record {
  board : l.asker.table ≡ l.initial.asker.table;
  same : l.runner.table ≡ l.initial.runner.table;
  number : l.asker.number ≡ l.initial.asker.number;
  lanes : l.runner.lanes ≡ l.initial.runner.lanes;
}
