use Rattle.std.proofs.Common.{◌≡◌}
use Rattle.bq_meaning.specs.Runs.{entry_machine}
use Rattle.bq_meaning.proofs.Reach.{Reaches}
use Rattle.bq_meaning.proofs.run.run_checked.Given as goal

abbrev pub invariant-loop-done : goal.invariant-loop-done
invariant-loop-done l = record {
  reached : Reaches l.placement l.text (entry_machine l.placement l.acc l.«record» l.fn.frame) l.done l.machine;
  same : l.frame ≡ l.fn.frame;
}
