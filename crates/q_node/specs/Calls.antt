-- What the calls under the lock of a node do to what it keeps.
use Rattle.std.specs.Prelude.{◌≡◌, ℕ, ◌==◌, Bool, true, false, not, ◌&&◌, ◌||◌, is_some, List, ◌++◌, length, Option, Some, None, IsNone, Result, Ok, Err, if◌then◌else◌}
use Rattle.reasons.specs.declared.Reason.{Reason}
use Rattle.reasons.specs.declared.Reason.TheVariants as reasons
use Rattle.sc_msg.specs.declared.message.Message.{Message}
use Rattle.q_session.specs.declared.ran.Ran.{Ran}
use Rattle.q_desk.specs.declared.completed.Completed.{Completed}
use Rattle.q_book.specs.State.{BookState}
use Rattle.q_held.specs.LiveNodes.{Hears, Leaves, counted, ended_by}
use Rattle.q_held.specs.declared.live_node.LossReason.{LossReason}
use Rattle.q_held.specs.declared.losses.LossCounts.{LossCounts}
use Rattle.q_net.specs.Replies.{Replies}
use Rattle.q_net.specs.declared.replies.Reply.{Reply}
use Rattle.q_net.specs.declared.request.Request.{Request}
use Rattle.q_kept.specs.State.{RecorderState}
use Rattle.q_kept.specs.Recording.{Grows, IsRecorded, Records, RecordsAll}
use Rattle.q_kept.specs.declared.fault.Unrecorded.{Unrecorded}
use Rattle.q_kept.specs.Settling.{GivesNone, GivesWritten, Pumps}
use Rattle.q_kept.specs.declared.letter.Letter.{Letter}
use Rattle.q_doors.specs.Books.{HasEndedIn}
use Rattle.q_node.specs.declared.console.Said.{Said}
use Rattle.q_node.specs.declared.console.Said.TheVariants as said
use Rattle.q_node.specs.State.{OwnState, outbox_of}

-- ---- settling

-- letters are given where the journal is written, whole, and none where it is not
abbrev pub IsGiven : OwnState → Option (List Letter) → OwnState → Type 0
IsGiven old (Some letters) new =
    GivesWritten old.recorder old.book new.book (outbox_of old) letters new.recorder (outbox_of new)
IsGiven old None new = GivesNone old.recorder new.book (outbox_of old) new.recorder (outbox_of new)

-- The pump carries results and jobs, then what the file lacks of the book's journal is written, and only then the
-- messages that wait are given as these letters. Once mute, always mute.
pub record Settles (old : OwnState) (letters : Option (List Letter)) (new : OwnState) : Type 0 where
  pub pumped : Pumps old.asker old.book new.asker new.book
  pub given : IsGiven old letters new
  pub mute : old.recorder.broken ≡ true → IsNone letters × (new.recorder ≡ old.recorder)
  pub grows : Grows old.book new.book
  pub recorded : (first : Option (List ℕ)) → IsRecorded first old.book old.recorder → IsRecorded first new.book new.recorder
  pub lost : new.lost ≡ old.lost

-- Something happened to the book, to the messages that wait and to the count of what was lost, and to nothing else;
-- these are what came of it, before all was settled.
pub record SettlesAfter (Happened : BookState → List Message → LossCounts → Type 0) (old : OwnState)
    (letters : Option (List Letter)) (new : OwnState) : Type 0 where
  pub book : BookState
  pub waiting : List Message
  pub lost : LossCounts
  pub happened : Happened book waiting lost
  pub settled : Settles (record old { book = book; waiting = waiting; lost = lost }) letters new

-- ---- what happens before

-- bytes are heard, with this result; a datagram that changes nothing is counted
abbrev pub HeardSo : List ℕ → Result (Option Completed) LossReason → OwnState → BookState → List Message → LossCounts → Type 0
HeardSo bytes r old book waiting lost = Hears bytes old.book old.waiting r book waiting × (lost ≡ counted r old.lost)

-- a request has this reply, and what the book gives waits behind what waited
abbrev pub RepliedSo : Request → Reply → OwnState → BookState → List Message → LossCounts → Type 0
RepliedSo r said old book waiting lost =
    (outs : List Message) × Replies old.book r said outs book × (waiting ≡ old.waiting ++ outs) × (lost ≡ old.lost)

-- the node leaves, with this result
abbrev pub LeftSo : Result (Unit {0}) Reason → OwnState → BookState → List Message → LossCounts → Type 0
LeftSo r old book waiting lost = Leaves old.book old.waiting r book waiting × (lost ≡ old.lost)

-- ---- the calls that settle

-- bytes are heard, and then all is settled; it is told whether an operation ended
pub record HearsAndSettles (bytes : List ℕ) (old : OwnState) (has_ended : Bool) (letters : Option (List Letter))
    (new : OwnState) : Type 0 where
  pub heard : Result (Option Completed) LossReason
  pub ended : has_ended ≡ is_some (ended_by heard)
  pub settled : SettlesAfter (HeardSo bytes heard old) old letters new

-- why the journal is not written: a write failed, or memory ran out
abbrev pub why_unwritten : RecorderState → Reason
why_unwritten r = if r.broken then reasons.FileFailed else reasons.OutOfMemory

-- what is said to a leave with this result, by whether the journal is written: that it is done where the book took it
-- and that is written
abbrev pub said_to_leave : Result (Unit {0}) Reason → Bool → RecorderState → Said
said_to_leave (Err f) written r = said.Refused f
said_to_leave (Ok u) true r = said.Done
said_to_leave (Ok u) false r = said.Refused (why_unwritten r)

-- the node leaves, and then all is settled; it is said what came of it
pub record LeavesAndSettles (old : OwnState) (told : Said) (letters : Option (List Letter)) (new : OwnState) : Type 0 where
  pub left : Result (Unit {0}) Reason
  pub says : told ≡ said_to_leave left (is_some letters) new.recorder
  pub settled : SettlesAfter (LeftSo left old) old letters new

-- ---- what is asked

-- all events of the book are written
abbrev pub is_written : OwnState → Bool
is_written o = o.recorder.written == length o.book.desk.journal

-- something waits that a settling may write or give
abbrev pub is_behind : OwnState → Bool
is_behind o = not (length o.waiting == 0) || not (is_written o)

-- all events of the book are written, and no write failed
abbrev pub is_told : OwnState → Bool
is_told o = not o.recorder.broken && is_written o

-- the operation has ended, and that is written
pub record HasEndedWritten (o : OwnState) (tag : ℕ) : Type 0 where
  pub told : is_told o ≡ true
  pub ended : HasEndedIn o.book tag

-- a query has no answer yet
abbrev pub is_open : Result (Option Ran) Reason → Bool
is_open (Ok None) = true
is_open r = false

-- ---- the end

-- what the file lacks is written, and the events of the book are told; or why it is not
abbrev pub Finishes : RecorderState → BookState → Result ℕ Unrecorded → RecorderState → Type 0
Finishes old b (Ok events) new = RecordsAll old b new × (events ≡ length b.desk.journal)
Finishes old b (Err fault) new = Records old b (Err fault) new
