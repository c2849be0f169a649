-- What the file of a node's journal holds when the node ends.
use Rattle.std.specs.Prelude.{◌≡◌, ℕ, List, Option, length, Result, Ok, Err}
use Rattle.std.specs.Io.KnownBytes.{Appends}
use Rattle.q_book.specs.State.{BookState}
use Rattle.q_replay.specs.Journal.{journal_of}
use Rattle.q_kept.specs.Recording.{AppendsPart}
use Rattle.q_kept.specs.declared.fault.Unrecorded.{Unrecorded}
use Rattle.q_book.specs.Replays.{IsBookOf}

-- the file holds the whole journal of a book of the node, which has so many events
pub record HoldsJournal (node : ℕ) (first file : Option (List ℕ)) (events : ℕ) : Type 0 where
  pub book : BookState
  pub own : IsBookOf node book
  pub whole : Appends first file (journal_of book)
  pub counted : events ≡ length book.desk.journal

-- the file holds a beginning of the journal of a book of the node, maybe an empty one
pub record HoldsBeginning (node : ℕ) (first file : Option (List ℕ)) : Type 0 where
  pub book : BookState
  pub own : IsBookOf node book
  pub beginning : ∥ AppendsPart first file (journal_of book) ∥₁

-- what the file holds where the node's threads have ended
abbrev pub IsKept : ℕ → Option (List ℕ) → Option (List ℕ) → Result ℕ Unrecorded → Type 0
IsKept node first file (Ok events) = HoldsJournal node first file events
IsKept node first file (Err fault) = HoldsBeginning node first file
