-- read_notes: the notes that bytes spell in the form of that version.
use Rattle.std.proofs.Common.{◌≡◌, ℕ, List, Option, MatchResult, Result, sym, subst}
use Rattle.bq_state.specs.Kinds.{StateKinds}
use Rattle.bq_check.specs.Spelling.{notes_bytes, IsNotes}
use Rattle.bq_check.specs.declared.fault.NotesFault.{NotesFault}
use Rattle.bq_check.specs.declared.fault.NotesFault.TheVariants.{OutOfMemory}
use Rattle.sc_msg.specs.declared.version.Version.{Version}
use Rattle.q_book.specs.Books.{notes_form}
use Rattle.q_book.proofs.notes.read_notes.Goals as goal

-- all notes that the bytes spell in the form of a version are read
abbrev ReadsAll : List ℕ → Result (List (Option StateKinds)) NotesFault → Version → Type 0
ReadsAll bytes read version =
    (n : List (Option StateKinds)) → IsNotes (notes_form version) n → bytes ≡ notes_bytes (notes_form version) n
    → MatchResult read (λ m. m ≡ n) (λ e. e ≡ OutOfMemory)

pub returns-in-First-clause-all : goal.returns-in-First-clause-all
returns-in-First-clause-all c = subst (ReadsAll c.args.bytes.now c.read_v1.result) (sym c.in-First.is) c.read_v1.ensures.all

pub returns-in-Second-clause-all : goal.returns-in-Second-clause-all
returns-in-Second-clause-all c = subst (ReadsAll c.args.bytes.now c.read.result) (sym c.in-Second.is) c.read.ensures.all
