-- Books of nodes that ran apart, in one cluster.
use Rattle.std.specs.Prelude.{◌≡◌, ℕ, true, List, ◌++◌, Some, None, Ok, slice_get, slice_set}
use Rattle.std.specs.Ordering.{nat_cmp}
use Rattle.std.specs.FinSet as set
use Rattle.sc_members.specs.Members.{Config}
use Rattle.sc_msg.specs.declared.message.Message.{Message}
use Rattle.sc_msg.specs.declared.version.Version.{Version}
use Rattle.q_desk.specs.Answers.{AnswersAreRight}
use Rattle.q_desk.specs.declared.journal.Entry.{Entry}
use Rattle.q_book.specs.State.{BookState}
use Rattle.q_history.specs.declared.event.ClusterEvent.{ClusterEvent}
use Rattle.q_history.specs.declared.event.ClusterStep.{ClusterStep}
use Rattle.q_history.specs.Headline.{ClusterState}
use Rattle.q_history.specs.Heads.{founders_for}
use Rattle.q_history.specs.Clusters.{start, started}
use Rattle.q_history.specs.Calls.{Follows, IsHistory}
use Rattle.q_cluster.specs.Acts.{book_at}
use Rattle.q_gather.specs.Merging.{Step}
use Rattle.q_gather.specs.Traces.{IsTrace, IsTraceFrom}

-- ---- the books

-- the books are of different nodes
abbrev pub AreDistinct : List BookState → Type 0
AreDistinct books = (i k : ℕ) (a b : BookState) → slice_get books i ≡ Some a → slice_get books k ≡ Some b → a.id ≡ b.id → i ≡ k

-- one of the books is of this node
pub record HasBook (books : List BookState) (id : ℕ) : Type 0 where
  pub place : ℕ
  pub book : BookState
  pub at : slice_get books place ≡ Some book
  pub of : book.id ≡ id

-- each recorded answer of a book is right
abbrev pub AreRight : List BookState → Type 0
AreRight books = (k : ℕ) (b : BookState) → slice_get books k ≡ Some b → AnswersAreRight b.desk

-- the books agree on the version, on the fractions and on the founders, who are taken and of whom each has a book
pub record AgreeOn (books : List BookState) (version : Version) (config : Config) (founders : List ℕ) : Type 0 where
  pub taken : started version config founders ≡ Ok (start version config founders)
  pub versions : (k : ℕ) (b : BookState) → slice_get books k ≡ Some b → b.version ≡ version
  pub heads : (k : ℕ) (b : BookState) → slice_get books k ≡ Some b → (b.config ≡ config) × (b.founders ≡ founders_for b.id founders)
  pub there : (id : ℕ) → set.contains (set.from_list {R = nat_cmp} founders) id ≡ true → HasBook books id

-- the steps of each book
pub record AreTraces (books : List BookState) (lists : List (List (Step Message))) : Type 0 where
  pub each : (k : ℕ) (b : BookState) → slice_get books k ≡ Some b → (steps : List (Step Message)) × (slice_get lists k ≡ Some steps) × IsTrace b steps
  pub few : (k : ℕ) (steps : List (Step Message)) → slice_get lists k ≡ Some steps → (b : BookState) × (slice_get books k ≡ Some b)

-- the books of the cluster are these, and nobody has crashed
pub record IsGathered (books : List BookState) (c : ClusterState) : Type 0 where
  pub history : IsHistory c
  pub each : (k : ℕ) (b : BookState) → slice_get books k ≡ Some b → book_at c b.id ≡ Some b
  pub all : (id : ℕ) (b : BookState) → book_at c id ≡ Some b → HasBook books id
  pub nobody : c.past.crashed ≡ set.empty

-- ---- while they are gathered

-- How far the node of a book has come in a cluster, where these entries and these steps are left: it has not entered,
-- or its book there is one from which the entries lead to the whole book.
pub data IsAt (c : ClusterState) (whole : BookState) (left : List Entry) (steps : List (Step Message)) : Type 0 where
  Away : book_at c whole.id ≡ None → whole.founders ≡ None → left ≡ whole.desk.journal → IsTrace whole steps → IsAt c whole left steps
  There : (b : BookState) → book_at c whole.id ≡ Some b → IsTraceFrom b left steps whole → IsAt c whole left steps

-- the cluster holds what was gathered so far, and these steps of each book are left
pub record IsUnderWay (books : List BookState) (c : ClusterState) (lists : List (List (Step Message))) : Type 0 where
  pub history : IsHistory c
  pub distinct : AreDistinct books
  pub right : AreRight books
  pub versions : (k : ℕ) (b : BookState) → slice_get books k ≡ Some b → b.version ≡ c.version
  pub same : (k : ℕ) (b : BookState) → slice_get books k ≡ Some b → b.config ≡ c.past.config
  pub at : (k : ℕ) (b : BookState) → slice_get books k ≡ Some b → (steps : List (Step Message))
      × (slice_get lists k ≡ Some steps) × (left : List Entry) × IsAt c b left steps
  pub all : (id : ℕ) (b : BookState) → book_at c id ≡ Some b → HasBook books id
  pub nobody : c.past.crashed ≡ set.empty
  pub few : (k : ℕ) (steps : List (Step Message)) → slice_get lists k ≡ Some steps → (b : BookState) × (slice_get books k ≡ Some b)

-- the event takes the first step of this list
pub record Goes (books : List BookState) (c : ClusterState) (lists : List (List (Step Message))) (k : ℕ)
    (s : Step Message) (rest : List (Step Message)) (event : ClusterEvent) : Type 0 where
  pub told : ClusterStep
  pub later : ClusterState
  pub accepted : Follows c event told later
  pub goes : (told : ClusterStep) (later : ClusterState) → Follows c event told later → IsUnderWay books later (slice_set lists k rest)
  pub sent : (told : ClusterStep) (later : ClusterState) → Follows c event told later → later.past.sent ≡ c.past.sent ++ s.gives
