-- What the bytes of a journal lead to.
use Rattle.std.specs.Prelude.{◌≡◌, ◌≢◌, ℕ, zero, suc, List, [], ◌∷◌, ◌++◌, length, Option, Some, None, Result, Ok}
use Rattle.std.specs.List.{flat_map, AllByRecursion}
use Rattle.sc_members.specs.Members.{IsConfig}
use Rattle.spelling.specs.Codes.{BeginsNone}
use Rattle.q_session.specs.Right.{IsRight}
use Rattle.q_session.specs.declared.job.Job.{Job}
use Rattle.q_desk.specs.Desks.{running_job}
use Rattle.q_desk.specs.declared.journal.Entry.{Entry}
use Rattle.q_desk.specs.declared.journal.Entry.TheVariants as entry
use Rattle.q_book.specs.State.{BookState}
use Rattle.q_book.specs.Books.{founded, entered}
use Rattle.q_book.specs.Replays.{Follows}
use Rattle.reasons.specs.declared.Reason.{Reason}
use Rattle.q_replay.specs.Head.{Head}
use Rattle.q_replay.specs.Spelling.{head_bytes, event_bytes, IsHead, IsWritten}
use Rattle.q_replay.specs.declared.raw_entry.RawEntry.{RawEntry}
use Rattle.q_replay.specs.Journal.{written_of, IsEntry}
use Rattle.q_replay.specs.declared.fault.ReplayFault.{ReplayFault}
use Rattle.q_replay.specs.declared.fault.ReplayFault.TheVariants.{Form, Mismatch, OutOfMemory}

-- ---- one event

-- the book of that version of a node that so began, before any event
abbrev pub begun : Head → Option (List ℕ) → Result BookState Reason
begun h (Some ids) = founded h.version h.config h.id ids
begun h None = Ok (entered h.version h.config h.id).0

-- the fractions are those of a cluster, and the founders are taken
pub record Begins (h : Head) (b : BookState) : Type 0 where
  pub config : IsConfig h.config
  pub book : begun h h.founders ≡ Ok b

-- an answer is the right one of the job of its query, which runs
abbrev pub IsAnswering : BookState → Entry → Type 0
IsAnswering b (entry.Post query ran) = (j : Job) × (running_job b.desk b.id query ≡ Some j) × IsRight j.certified j.view j.start ran
IsAnswering b e = Unit {0}

-- the call of an event is accepted, and an answer that it names is right
pub record Takes (b : BookState) (w : RawEntry) (c : BookState) : Type 0 where
  pub called : Entry
  pub legal : IsEntry b.version called
  pub is : written_of called ≡ w
  pub answers : IsAnswering b called
  pub follows : Follows b called c

-- ---- all events

-- the events lead from one book to another
abbrev pub TakesAll : BookState → List RawEntry → BookState → Type 0
TakesAll b [] c = c ≡ b
TakesAll b (w ∷ ws) c = (between : BookState) × Takes b w between × TakesAll between ws c

-- a head and so many events of its version that lead to this book stand first in the bytes, and others behind them
pub record Leads (bytes : List ℕ) (count : ℕ) (b : BookState) (rest : List ℕ) : Type 0 where
  pub head : Head
  pub legal : IsHead head
  pub first : BookState
  pub begins : Begins head first
  pub events : List RawEntry
  pub written : AllByRecursion (IsWritten head.version) events
  pub takes : TakesAll first events b
  pub parts : bytes ≡ head_bytes head ++ (flat_map (event_bytes head.version) events ++ rest)
  pub many : count ≡ length events

-- ---- the first fault

-- behind so many events that are taken stands no event
pub record IsUnspelled (bytes : List ℕ) (count : ℕ) : Type 0 where
  pub book : BookState
  pub rest : List ℕ
  pub leads : Leads bytes count book rest
  pub more : rest ≢ []
  pub none : BeginsNone (event_bytes book.version) (IsWritten book.version) rest

-- behind so many events that are taken stands one that is not
pub record IsUntaken (bytes : List ℕ) (count : ℕ) : Type 0 where
  pub book : BookState
  pub rest : List ℕ
  pub leads : Leads bytes count book rest
  pub event : RawEntry
  pub legal : IsWritten book.version event
  pub more : List ℕ
  pub parts : rest ≡ event_bytes book.version event ++ more
  pub refused : (c : BookState) → Takes book event c → ⊥

-- a head stands first, of which no book begins
pub record IsUnbegun (bytes : List ℕ) : Type 0 where
  pub head : Head
  pub legal : IsHead head
  pub rest : List ℕ
  pub parts : bytes ≡ head_bytes head ++ rest
  pub refused : (b : BookState) → Begins head b → ⊥

-- why bytes are no journal: the least event that is faulty, where the head is event 0
abbrev pub IsFault : List ℕ → ReplayFault → Type 0
IsFault bytes (Form zero) = BeginsNone head_bytes IsHead bytes
IsFault bytes (Form (suc count)) = IsUnspelled bytes count
IsFault bytes (Mismatch zero) = IsUnbegun bytes
IsFault bytes (Mismatch (suc count)) = IsUntaken bytes count
IsFault bytes OutOfMemory = Unit {0}
