use Rattle.bq_sound.specs.Passes.{AllFine}
use Rattle.bq_check.proofs.checker.check_units.Given as goal

abbrev pub invariant-loop-unit : goal.invariant-loop-unit
invariant-loop-unit l = AllFine l.text l.notes l.unit
