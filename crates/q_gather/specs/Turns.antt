-- What an entry of a node's journal is in a cluster, and what it makes of it.
use Rattle.std.specs.Prelude.{◌≡◌, ℕ, false, List, ◌++◌, Some, slice_get}
use Rattle.std.specs.FinSet as set
use Rattle.sc_msg.specs.declared.message.Message.{Message}
use Rattle.q_session.specs.declared.job.Job.{Job}
use Rattle.q_desk.specs.declared.journal.Entry.{Entry}
use Rattle.q_desk.specs.declared.journal.Entry.TheVariants as entry
use Rattle.q_book.specs.State.{BookState}
use Rattle.q_book.specs.Replays as replays
use Rattle.q_history.specs.declared.event.ClusterEvent.{ClusterEvent}
use Rattle.q_history.specs.declared.event.ClusterEvent.TheVariants as event
use Rattle.q_history.specs.declared.event.ClusterStep.{ClusterStep}
use Rattle.q_history.specs.Headline.{ClusterState}
use Rattle.q_history.specs.Calls.{Follows}
use Rattle.q_cluster.specs.Acts.{book_at}

-- the job that the node handed out for this query has this number
pub record IsJobFor (jobs : List Job) (id query number : ℕ) : Type 0 where
  pub job : Job
  pub at : slice_get jobs number ≡ Some job
  pub by : job.node ≡ id
  pub of : job.query ≡ query

-- The entry as an event of the node. A call is the same call. A message goes by a number at which it was sent, and an
-- answer by the number of the job that was handed out for its query.
abbrev pub IsEventOf : ClusterState → ℕ → Entry → ClusterEvent → Type 0
IsEventOf c id (entry.Call k) ev = ev ≡ event.Call id k
IsEventOf c id (entry.Deliver m) ev = (number : ℕ) × (slice_get c.past.sent number ≡ Some m) × (ev ≡ event.Deliver number id)
IsEventOf c id (entry.Post query ran) ev = (number : ℕ) × IsJobFor c.jobs id query number × (ev ≡ event.Finish number)

-- the entry is the next of this node, which has not crashed, and its call leads to another book
pub record IsNext (c : ClusterState) (id : ℕ) (b : BookState) (e : Entry) (d : BookState) : Type 0 where
  pub book : book_at c id ≡ Some b
  pub stays : set.contains c.past.crashed id ≡ false
  pub takes : replays.Follows b e d

-- the node's book is this later, the others are as they were, and these messages were sent; nobody crashed
pub record IsTurn (c : ClusterState) (id : ℕ) (b : BookState) (outs : List Message) (later : ClusterState) : Type 0 where
  pub book : book_at later id ≡ Some b
  pub others : (p : ℕ) → (p ≡ id → ⊥) → book_at later p ≡ book_at c p
  pub sent : later.past.sent ≡ c.past.sent ++ outs
  pub crashed : later.past.crashed ≡ c.past.crashed
  pub version : later.version ≡ c.version
  pub config : later.past.config ≡ c.past.config
  pub founders : later.past.founders ≡ c.past.founders

-- the event is accepted, and makes this turn
pub record Makes (c : ClusterState) (ev : ClusterEvent) (id : ℕ) (b : BookState) (outs : List Message) : Type 0 where
  pub told : ClusterStep
  pub later : ClusterState
  pub accepted : Follows c ev told later
  pub turns : (told : ClusterStep) (later : ClusterState) → Follows c ev told later → IsTurn c id b outs later
