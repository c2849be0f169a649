-- Notes::bytes_v1: the bytes of the notes in the first form, or 31 NoteForm where a state is not for records of 64
-- bytes alone: it knows a register as the record's length, or the record may have another length than 64.
use Rattle.std.proofs.Common.{rules}
use Rattle.bq_state.specs.Kinds.{view_lengths}
use Rattle.bq_sound.specs.Passes.{AllFitLengths}
use Rattle.bq_check.proofs.FirstForm.{first_notes}
use Rattle.bq_check.proofs.notes.Notes.bytes_v1.Goals as goal

pub returns-clause-legal : goal.returns-clause-legal
returns-clause-legal c =
    let fits : AllFitLengths view_lengths c.args.self.now = search rules in
    first_notes c.args.self.now c.are_notes.ensures fits
