-- What settling does.
use Rattle.std.specs.Prelude.{◌≡◌, ◌⊎◌, ℕ, List, Option, Err}
use Rattle.std.specs.Io.KnownBytes.{Appends}
use Rattle.q_board.specs.AskerModel.{AskerModel}
use Rattle.q_book.specs.State.{BookState}
use Rattle.reasons.specs.declared.Reason.{Reason}
use Rattle.q_board.specs.Pumped.{Pumped, Stopped}
use Rattle.q_replay.specs.Journal.{journal_of}
use Rattle.q_kept.specs.State.{RecorderState}
use Rattle.q_kept.specs.Recording.{IsRecorded, Records, RecordsAll}
use Rattle.q_kept.specs.declared.fault.Unrecorded.{Unrecorded}
use Rattle.q_kept.specs.Giving.{Gives, Outbox}
use Rattle.q_kept.specs.declared.letter.Letter.{Letter}

-- the pump did as it says, to its end or up to a refusal
abbrev pub Pumps : AskerModel → BookState → AskerModel → BookState → Type 0
Pumps a b a' b' = ((posted : ℕ) × Pumped a b posted a' b') ⊎ ((fault : Reason) × Stopped a b fault a' b')

-- Of a book that was b before the pump and is c: its journal stands in the file, whole, behind what the file held at
-- first, and messages that waited are given.
pub record GivesWritten (r : RecorderState) (b c : BookState) (old : Outbox) (letters : List Letter) (r' : RecorderState) (new : Outbox) : Type 0 where
  pub written : RecordsAll r c r'
  pub whole : (first : Option (List ℕ)) → IsRecorded first b r → Appends first r'.file (journal_of c)
  pub given : Gives c.version old letters new

-- the journal is not written, since a write failed, now or before, or memory ran out: no message is given, and all wait
pub record GivesNone (r : RecorderState) (c : BookState) (old : Outbox) (r' : RecorderState) (new : Outbox) : Type 0 where
  pub why : Unrecorded
  pub unwritten : Records r c (Err why) r'
  pub same : new ≡ old
