use Rattle.bq_check.specs.declared.form.NotesForm.TheVariants.{Second}
use Rattle.bq_check.specs.Spelling.{IsNote}
use Rattle.bq_check.proofs.Seen.{Seen}
use Rattle.bq_check.proofs.notes.Notes.are_notes.Given as goal

abbrev pub invariant-loop-note : goal.invariant-loop-note
invariant-loop-note l = Seen (IsNote Second) l.note-items l.note-index
