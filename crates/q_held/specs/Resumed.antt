-- What a node that comes back asks again, and which jobs it offers again.
use Rattle.std.specs.Prelude.{◌≡◌, ◌⊎◌, ℕ, zero, suc, ◌+◌, Bool, true, false, List, [], ◌∷◌, ◌++◌, map, length, Option, Some, None, if◌then◌else◌}
use Rattle.std.specs.FinMap as fin
use Rattle.std.specs.List.{filter_map, flat_map}
use Rattle.sc_msg.specs.declared.message.Body.{Body}
use Rattle.sc_msg.specs.declared.message.Body.TheVariants.{CollectQuery, Enter, Join, Leave, Store}
use Rattle.sc_msg.specs.declared.message.Message.{Message}
use Rattle.sc_operations.specs.declared.session.Session.{Session}
use Rattle.sc_operations.specs.declared.session.Session.TheVariants as session
use Rattle.sc_node.specs.Nodes.{message_from, store_under}
use Rattle.sc_node.specs.State.{NodeState}
use Rattle.q_session.specs.declared.job.Job.{Job}
use Rattle.q_desk.specs.Desks.{running_job}
use Rattle.q_book.specs.State.{BookState}
use Rattle.q_board.specs.AskerModel.{AskerModel}
use Rattle.q_board.specs.Places.{jobs}

-- the numbers from 0 on, this many
abbrev pub numbers_below : ℕ → List ℕ
numbers_below zero = []
numbers_below (suc n) = numbers_below n ++ n ∷ []

-- ---- what is asked again

-- what the phase of an open operation with this tag asks
abbrev pub asked_in : ℕ → Option Session → List Body
asked_in tag None = []
asked_in tag (Some (session.Store e back)) = Store (store_under tag back.view) ∷ []
asked_in tag (Some (session.Querying p)) = CollectQuery tag ∷ []
asked_in tag (Some (session.StoringBack p back)) = Store (store_under tag back.view) ∷ []

-- what the operation with this tag asks, if it is open
abbrev pub asked_under : NodeState → ℕ → List Body
asked_under n tag = asked_in tag (fin.get n.sessions tag)

-- what all open operations ask, by rising tags
abbrev pub operations_asked : NodeState → List Body
operations_asked n = flat_map (asked_under n) (numbers_below n.operations)

-- a node that entered asks to enter until it has joined, and says that it joined from then on; a founder says neither
abbrev pub membership_asked : Option (List ℕ) → NodeState → List Body
membership_asked (Some founders) n = []
membership_asked None n = (if n.joined then Join else Enter) ∷ []

-- a node that left says only that; any other asks what its membership and its open operations ask
abbrev pub bodies_asked : Option (List ℕ) → NodeState → List Body
bodies_asked founders n = if n.gone then Leave ∷ [] else membership_asked founders n ++ operations_asked n

-- the messages that a node with this book still waits on
abbrev pub still_asked : BookState → List Message
still_asked b = map (message_from b.id) (bodies_asked b.founders b.node)

-- ---- jobs

-- the jobs of the queries that run, by rising numbers
abbrev pub running_jobs : BookState → List Job
running_jobs b = filter_map (running_job b.desk b.id) (numbers_below (length b.desk.queries))

-- These jobs are offered in turn, and nothing else changes.
pub record OffersAll (due : List Job) (old new : AskerModel) : Type 0 where
  pub is : new.offered ≡ old.offered ++ due
  pub balance : jobs new.row ≡ jobs old.row + length due
  pub table : new.table ≡ old.table
  pub number : new.number ≡ old.number
  pub received : new.received ≡ old.received
  pub looks : new.looks ≡ old.looks

-- These jobs are offered if this says that the row has room; otherwise it is full, and nothing changes.
abbrev pub OffersOrIsFull : List Job → Bool → AskerModel → AskerModel → Type 0
OffersOrIsFull due true old new = OffersAll due old new
OffersOrIsFull due false old new = (jobs old.row ≡ 8) × (new ≡ old)

-- The first of these jobs are offered in turn: all of them, or as many as the row has room for.
pub record OffersFirst (due : List Job) (old new : AskerModel) : Type 0 where
  pub offered : List Job
  pub left : List Job
  pub parts : due ≡ offered ++ left
  pub is : new.offered ≡ old.offered ++ offered
  pub ends : (left ≡ []) ⊎ (jobs new.row ≡ 8)
  pub balance : jobs new.row ≡ jobs old.row + length offered
  pub table : new.table ≡ old.table
  pub number : new.number ≡ old.number
  pub received : new.received ≡ old.received
  pub looks : new.looks ≡ old.looks
