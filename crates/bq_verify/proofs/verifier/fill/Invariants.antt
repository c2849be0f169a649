use Rattle.bq_verify.specs.Table.{IsFilled}
use Rattle.bq_verify.proofs.verifier.fill.Given as goal

abbrev pub invariant-loop-unit : goal.invariant-loop-unit
invariant-loop-unit l = IsFilled l.fn.bounds l.text l.states.items l.unit
