-- How far books are gathered, and what is next.
use Rattle.std.specs.Prelude.{◌≡◌, ◌≤◌, ◌<◌, ℕ, nat_eq, true, List, [], length, Option, Some, None, slice_get}
use Rattle.std.specs.List.{list_any}
use Rattle.sc_msg.specs.declared.message.Message.{Message}
use Rattle.q_desk.specs.declared.journal.Entry.{Entry}
use Rattle.q_book.specs.State.{BookState}
use Rattle.q_history.specs.declared.event.ClusterEvent.{ClusterEvent}
use Rattle.q_history.specs.declared.event.ClusterEvent.TheVariants as event
use Rattle.q_history.specs.Headline.{ClusterState}
use Rattle.q_cluster.specs.Acts.{book_at}
use Rattle.q_gather.specs.Merging.{Step, Merges}
use Rattle.q_gather.specs.Turns.{IsEventOf}
use Rattle.q_gather.specs.Numbers.{NumberList, AreNumbers}
use Rattle.q_gather.specs.Gathered.{AreTraces, IsGathered, IsUnderWay}
use Rattle.q_gather.specs.Gather.{Merge}
use Rattle.q_gather.specs.declared.rounds.Rounds.{Rounds}
use Rattle.q_gather.specs.declared.fault.GatherFault.{GatherFault}
use Rattle.q_gather.specs.declared.fault.GatherFault.TheVariants.{NeverSent, OutOfMemory}

-- one of which this holds is found, or there is none
abbrev pub Finds : {A : Type 0} → (A → Type 0) → Option A → Type 0
Finds P None = (a : _) → P a → ⊥
Finds P (Some a) = P a

-- ---- what is next

abbrev pub IsNextEntry : ClusterState → ℕ → Option Entry → ClusterEvent → Type 0
IsNextEntry c id None ev = ⊥
IsNextEntry c id (Some e) ev = IsEventOf c id e ev

abbrev pub IsNextAfter : ClusterState → BookState → Option BookState → ClusterEvent → Type 0
IsNextAfter c whole None ev = ev ≡ event.Enter whole.id
IsNextAfter c whole (Some b) ev = IsNextEntry c whole.id (slice_get whole.desk.journal (length b.desk.journal)) ev

-- by this event the node of the book goes on: it enters, or takes the entry behind those that it has taken
abbrev pub IsNextOf : ClusterState → BookState → ClusterEvent → Type 0
IsNextOf c whole ev = IsNextAfter c whole (book_at c whole.id) ev

-- the node of one of the books goes on by this event
pub record IsNextAmong (c : ClusterState) (books : List BookState) (ev : ClusterEvent) : Type 0 where
  pub place : ℕ
  pub book : BookState
  pub at : slice_get books place ≡ Some book
  pub next : IsNextOf c book ev

-- the nodes of the books at these places cannot go on
abbrev pub AreIdle : ClusterState → List BookState → List ℕ → Type 0
AreIdle c books places = (k : ℕ) (b : BookState) (ev : ClusterEvent) → list_any (nat_eq k) places ≡ true → slice_get books k ≡ Some b → IsNextOf c b ev → ⊥

-- as long as no more was sent, those of which it was noted that they wait cannot go on
abbrev pub AreWaiting : ClusterState → List BookState → Rounds → Type 0
AreWaiting c books rounds = length c.past.sent ≡ rounds.sent → AreIdle c books rounds.waiting.keys

-- what is next of the books from one place up to another: nothing, or the event of a book
abbrev pub IsNextWithin : ClusterState → List BookState → ℕ → ℕ → Option ClusterEvent → Type 0
IsNextWithin c books first end None = (k : ℕ) (b : BookState) (ev : ClusterEvent) → first ≤ k → k < end → slice_get books k ≡ Some b → IsNextOf c b ev → ⊥
IsNextWithin c books first end (Some ev) = IsNextAmong c books ev

-- the node has taken all entries of its book
pub record HasTaken (c : ClusterState) (whole : BookState) : Type 0 where
  pub book : BookState
  pub at : book_at c whole.id ≡ Some book
  pub all : length book.desk.journal ≡ length whole.desk.journal

abbrev pub HaveTaken : ClusterState → List BookState → Type 0
HaveTaken c books = (k : ℕ) (b : BookState) → slice_get books k ≡ Some b → HasTaken c b

-- ---- how far it came

-- the books are gathered this far: their steps merge just where those that are left do
pub record IsGathering (books : List BookState) (c : ClusterState) (numbers : NumberList) : Type 0 where
  pub lists : List (List (Step Message))
  pub traces : AreTraces books lists
  pub left : List (List (Step Message))
  pub under_way : IsUnderWay books c left
  pub on : Merges Message [] lists → Merges Message c.past.sent left
  pub back : Merges Message c.past.sent left → Merges Message [] lists
  pub numbered : AreNumbers c.past.sent numbers

-- all are gathered
abbrev pub IsMerged : List BookState → ClusterState → Type 0
IsMerged books c = Merge books × IsGathered books c

-- why not all are
abbrev pub IsStuck : List BookState → GatherFault → Type 0
IsStuck books NeverSent = Merge books → ⊥
IsStuck books OutOfMemory = Unit {0}
IsStuck books f = ⊥
