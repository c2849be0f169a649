-- What a start makes of a journal's file that is there.
use Rattle.std.specs.Prelude.{◌≡◌, ◌⊎◌, ℕ, Bool, List, ◌++◌, Option, Some, None, Result, Ok, Err}
use Rattle.std.specs.Io.KnownBytes.{Keeps}
use Rattle.spelling.specs.Codes.{BeginsNone}
use Rattle.q_replay.specs.Head.{Head}
use Rattle.q_replay.specs.Spelling.{head_bytes, IsHead}
use Rattle.q_replay.specs.declared.fault.ReplayFault.TheVariants as replay
use Rattle.q_beginning.specs.Beginning.{IsRefused}
use Rattle.q_journal.specs.Found.{CutsTo, Holds, IsHeadless, IsOther, IsResumed}
use Rattle.q_journal.specs.Notes.{course_of}
use Rattle.q_journal.specs.declared.note.BootNote.{BootNote}
use Rattle.q_journal.specs.declared.course.Course.{Course}
use Rattle.q_journal.specs.declared.course.Course.TheVariants as course
use Rattle.q_journal.specs.declared.course.Unresumed.{Unresumed}
use Rattle.q_journal.specs.declared.course.Standing.TheVariants as standing
use Rattle.q_journal.specs.declared.fault.JournalFault.{JournalFault}
use Rattle.q_journal.specs.declared.fault.JournalFault.TheVariants as fault
use Rattle.q_journal.specs.declared.start.Resumed.{Resumed}

module _ (head : Head) (note : Option BootNote) (boot : List ℕ) (asked : Bool) where
  -- why a node does not begin or come back with a file that has these bytes
  abbrev pub IsWhyNot : List ℕ → JournalFault → Type 0
  IsWhyNot bytes fault.OtherNode = IsOther head bytes
  IsWhyNot bytes (fault.Journal f) = IsRefused bytes f × (IsHeadless head bytes → ⊥)
  IsWhyNot bytes (fault.Unresumed why) =
      (IsHeadless head bytes × (course_of note boot standing.Headless asked ≡ course.Refuse why))
      ⊎ ((r : Resumed) × IsResumed head bytes r.book r.kept r.cut × (course_of note boot standing.Whole asked ≡ course.Refuse why))
  IsWhyNot bytes fault.BadNote = ⊥
  IsWhyNot bytes f = Unit {0}

  -- The node begins, and the file is emptied; or it comes back, and what is torn is cut off; or neither, and the file
  -- stays as it is.
  abbrev pub Starts : Option (List ℕ) → Result (Option Resumed) JournalFault → Option (List ℕ) → Type 0
  Starts old (Ok None) new =
      (bytes : List ℕ) × Holds old bytes × IsHeadless head bytes × (course_of note boot standing.Headless asked ≡ course.Begin)
      × CutsTo 0 old new
  Starts old (Ok (Some r)) new =
      (bytes : List ℕ) × Holds old bytes × IsResumed head bytes r.book r.kept r.cut
      × (course_of note boot standing.Whole asked ≡ course.Resume) × CutsTo r.kept old new
  Starts old (Err f) new = ((bytes : List ℕ) × Holds old bytes × IsWhyNot bytes f) × Keeps old new

-- ---- on the way

-- what the bytes are to a node with this head, whatever the note says
abbrev pub Finds : Head → List ℕ → Result (Option Resumed) JournalFault → Type 0
Finds head bytes (Ok None) = IsHeadless head bytes
Finds head bytes (Ok (Some r)) = IsResumed head bytes r.book r.kept r.cut
Finds head bytes (Err (fault.Unresumed why)) = ⊥
Finds head bytes (Err fault.BadNote) = ⊥
Finds head bytes (Err fault.OtherNode) = IsOther head bytes
Finds head bytes (Err (fault.Journal f)) = IsRefused bytes f × (IsHeadless head bytes → ⊥)
Finds head bytes (Err f) = Unit {0}

-- why bytes with which no journal of the node begins are not its journal
abbrev pub IsForeign : List ℕ → JournalFault → Type 0
IsForeign bytes fault.OtherNode = (other : Head) × (rest : List ℕ) × IsHead other × (bytes ≡ head_bytes other ++ rest)
IsForeign bytes (fault.Journal f) = (f ≡ replay.Form 0) × BeginsNone head_bytes IsHead bytes
IsForeign bytes fault.OutOfMemory = Unit {0}
IsForeign bytes f = ⊥

-- a course that refuses is refused, and any other passes
abbrev pub Judges : Course → Result (Unit {0}) JournalFault → Type 0
Judges c (Ok u) = (why : Unresumed) → c ≡ course.Refuse why → ⊥
Judges c (Err f) = (why : Unresumed) × (f ≡ fault.Unresumed why) × (c ≡ course.Refuse why)

-- the course passes and the file is cut; or the file stays as it is, since the course refuses or a call failed
abbrev pub Settles : Course → ℕ → Option (List ℕ) → Result (Unit {0}) JournalFault → Option (List ℕ) → Type 0
Settles c kept old (Ok u) new = Judges c (Ok u) × CutsTo kept old new
Settles c kept old (Err f) new = ((f ≡ fault.Failed) ⊎ Judges c (Err f)) × Keeps old new
