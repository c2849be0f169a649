-- Notes::read_v1: the notes that the bytes spell in the first form, or 31 NoteForm where they spell none so: as
-- those that `Notes::read` takes, but without the two lengths, and with no kind 4.
use Rattle.bq_check.specs.declared.form.NotesForm.TheVariants.{First}
use Rattle.bq_check.proofs.Read.{reads}
use Rattle.bq_check.proofs.notes.Notes.read_v1.Goals as goal

pub returns-clause-all : goal.returns-clause-all
returns-clause-all c = reads First c.args.bytes.now c.notes_of.result c.notes_of.ensures.legal c.notes_of.ensures.spelled c.notes_of.ensures.refused
