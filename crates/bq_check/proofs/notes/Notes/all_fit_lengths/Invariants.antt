use Rattle.bq_check.proofs.FirstForm.{FitLengthsBelow}
use Rattle.bq_check.proofs.notes.Notes.all_fit_lengths.Given as goal

abbrev pub invariant-loop-unit : goal.invariant-loop-unit
invariant-loop-unit l = FitLengthsBelow l.bounds l.self l.unit
