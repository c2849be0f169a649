-- The journal of a book as bytes of its version.
use Rattle.std.specs.Prelude.{◌≡◌, ℕ, List, ◌++◌}
use Rattle.std.specs.List.{flat_map, AllByRecursion}
use Rattle.bq_check.specs.Certified.{IsCertified}
use Rattle.sc_members.specs.Members.{IsConfig}
use Rattle.sc_msg.specs.declared.version.Version.{Version}
use Rattle.q_desk.specs.Answers.{AnswersAreRight}
use Rattle.q_desk.specs.declared.journal.Entry.{Entry}
use Rattle.q_desk.specs.declared.journal.Call.TheVariants as call
use Rattle.q_desk.specs.declared.journal.Entry.TheVariants as entry
use Rattle.q_book.specs.State.{BookState}
use Rattle.q_book.specs.Books.{record_lengths}
use Rattle.q_book.specs.Replays.{IsReplay}
use Rattle.q_replay.specs.Head.{Head}
use Rattle.q_replay.specs.Spelling.{head_bytes, event_bytes, IsHead, IsWritten}
use Rattle.q_replay.specs.declared.raw_entry.RawEntry.{RawEntry}
use Rattle.q_replay.specs.declared.raw_entry.RawEntry.TheVariants as written

-- an entry as the bytes hold it
abbrev pub written_of : Entry → RawEntry
written_of (entry.Call call.Leave) = written.Leave
written_of (entry.Call (call.Register program)) = written.Register program.text program.notes
written_of (entry.Call (call.Ask program start)) = written.Ask program start
written_of (entry.Call (call.Store value)) = written.Store value
written_of (entry.Deliver m) = written.Deliver m
written_of (entry.Call call.HandOut) = written.HandOut
written_of (entry.Post query ran) = written.Post query ran.acc ran.steps

abbrev pub head_of : BookState → Head
head_of b = record { version = b.version; id = b.id; config = b.config; founders = b.founders }

abbrev pub entries_bytes : Version → List Entry → List ℕ
entries_bytes version es = flat_map (λ e. event_bytes version (written_of e)) es

-- the head, and the entries in turn
abbrev pub journal_of : BookState → List ℕ
journal_of b = head_bytes (head_of b) ++ entries_bytes b.version b.desk.journal

-- an entry that a book of that version may hold: it has a spelling, and the notes of a program pass for the records of
-- the book's views
abbrev pub IsCertifiedEntry : Version → Entry → Type 0
IsCertifiedEntry version (entry.Call (call.Register program)) = IsCertified program × (program.lengths ≡ record_lengths version)
IsCertifiedEntry version e = Unit {0}

abbrev pub IsEntry : Version → Entry → Type 0
IsEntry version e = IsWritten version (written_of e) × IsCertifiedEntry version e

-- a book that has a journal
pub record IsJournalled (b : BookState) : Type 0 where
  pub head : IsHead (head_of b)
  pub config : IsConfig b.config
  pub entries : AllByRecursion (IsEntry b.version) b.desk.journal
  pub replay : IsReplay b
  pub right : AnswersAreRight b.desk
