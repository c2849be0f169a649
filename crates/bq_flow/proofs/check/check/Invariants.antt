use Rattle.bq_flow.specs.Faults.{NoFlowFault}
use Rattle.bq_flow.proofs.check.check.Given as goal

abbrev pub invariant-loop-unit : goal.invariant-loop-unit
invariant-loop-unit l = NoFlowFault l.text l.unit
