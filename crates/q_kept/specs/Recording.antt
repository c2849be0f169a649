-- What recording does: what it appends to the file, and what stands there after any calls.
use Rattle.std.specs.Prelude.{◌≡◌, ◌≤◌, ℕ, true, false, List, [], ◌++◌, length, take, drop, Option, Some, IfSome, Result, Ok, Err, if◌then◌else◌}
use Rattle.std.specs.Io.KnownBytes.{Appends}
use Rattle.q_desk.specs.declared.journal.Entry.{Entry}
use Rattle.q_book.specs.State.{BookState}
use Rattle.q_replay.specs.Spelling.{head_bytes}
use Rattle.q_replay.specs.Journal.{head_of, entries_bytes, journal_of}
use Rattle.q_kept.specs.State.{RecorderState}
use Rattle.q_kept.specs.declared.fault.Unrecorded.{Unrecorded}
use Rattle.q_kept.specs.declared.fault.Unrecorded.TheVariants.{Failed, OutOfMemory}

-- ---- one call

-- what the file lacks of the journal of a book: the head, if it is not there, and the entries behind those that are
abbrev pub lacking_bytes : RecorderState → BookState → List ℕ
lacking_bytes r b = (if r.begun then [] else head_bytes (head_of b)) ++ entries_bytes b.version (drop r.written b.desk.journal)

-- known bytes grow by some beginning of these bytes
pub record AppendsPart (old new : Option (List ℕ)) (bytes : List ℕ) : Type 0 where
  pub part : List ℕ
  pub rest : List ℕ
  pub parts : part ++ rest ≡ bytes
  pub appended : Appends old new part

-- what is known to be kept is all that the file holds
abbrev pub IsKept : RecorderState → Type 0
IsKept r = IfSome r.kept (λ bytes. r.file ≡ Some bytes)

-- all that lacked is appended, and kept where that is wanted
pub record RecordsAll (old : RecorderState) (b : BookState) (new : RecorderState) : Type 0 where
  pub sound : old.broken ≡ false
  pub appended : Appends old.file new.file (lacking_bytes old b)
  pub kept : old.keeps ≡ true → IsKept new
  pub counted : new ≡ record old { file = new.file; kept = new.kept; begun = true; written = length b.desk.journal }

-- A write failed. Where that was before, nothing changes; where it is now, some beginning of what lacked is appended.
pub record Breaks (old : RecorderState) (b : BookState) (new : RecorderState) : Type 0 where
  pub before : old.broken ≡ true → new ≡ old
  pub appended : AppendsPart old.file new.file (lacking_bytes old b)
  pub broken : new ≡ record old { file = new.file; kept = new.kept; broken = true }

abbrev pub Records : RecorderState → BookState → Result (Unit {0}) Unrecorded → RecorderState → Type 0
Records old b (Ok u) new = RecordsAll old b new
Records old b (Err Failed) new = Breaks old b new
Records old b (Err OutOfMemory) new = (old.broken ≡ false) × (new ≡ old)

-- ---- any calls

-- a book of the same node whose journal begins with that of the earlier one
pub record Grows (b c : BookState) : Type 0 where
  pub head : head_of c ≡ head_of b
  pub more : List Entry
  pub journal : c.desk.journal ≡ b.desk.journal ++ more

-- what a recorder that is not broken wrote of the journal of a book: nothing, or the head and so many entries
abbrev pub recorded_bytes : RecorderState → BookState → List ℕ
recorded_bytes r b = if r.begun then head_bytes (head_of b) ++ entries_bytes b.version (take r.written b.desk.journal) else []

-- behind what the file held at first stands some beginning of the journal of the book: just what the recorder counts,
-- unless it is broken
pub record IsRecorded (first : Option (List ℕ)) (b : BookState) (r : RecorderState) : Type 0 where
  pub beginning : AppendsPart first r.file (journal_of b)
  pub whole : r.broken ≡ false → Appends first r.file (recorded_bytes r b)
  pub within : r.written ≤ length b.desk.journal
  pub unbegun : r.begun ≡ false → r.written ≡ 0
