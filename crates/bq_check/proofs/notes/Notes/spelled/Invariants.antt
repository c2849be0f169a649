use Rattle.std.proofs.Common.{length}
use Rattle.spelling.specs.Numbers.{number_bytes}
use Rattle.bq_check.specs.Spelling.{note_bytes}
use Rattle.bq_check.proofs.Written.{Written}
use Rattle.bq_check.proofs.notes.Notes.spelled.Given as goal

abbrev pub invariant-loop-note : goal.invariant-loop-note
invariant-loop-note l = Written (note_bytes l.form) (number_bytes 4 (length l.note-items)) l.note-items l.note-index l.out.items
