-- Notes::read: the notes that the bytes spell, or 31 NoteForm where they spell none.
use Rattle.bq_check.specs.declared.form.NotesForm.TheVariants.{Second}
use Rattle.bq_check.proofs.Read.{reads}
use Rattle.bq_check.proofs.notes.Notes.read.Goals as goal

pub returns-clause-all : goal.returns-clause-all
returns-clause-all c = reads Second c.args.bytes.now c.notes_of.result c.notes_of.ensures.legal c.notes_of.ensures.spelled c.notes_of.ensures.refused
