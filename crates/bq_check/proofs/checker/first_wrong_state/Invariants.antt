use Rattle.bq_check.specs.Faults.{AllMayHaveStates}
use Rattle.bq_check.proofs.checker.first_wrong_state.Given as goal

abbrev pub invariant-loop-unit : goal.invariant-loop-unit
invariant-loop-unit l = AllMayHaveStates l.bounds l.text l.notes l.unit
