-- What the record of an operation says of its world.
use Rattle.std.specs.Prelude.{◌≡◌, ℕ, ◌+◌, ◌≤◌, ◌<◌, Bool, false, ◌==◌, List, Option, Some, None, Ok, take, slice_get}
use Rattle.std.specs.List.{count_by}
use Rattle.std.specs.FinMap as fin
use Rattle.std.specs.FinSet as set
pub use Rattle.forms.specs.Lists.{Among}
use Rattle.sc_view.specs.declared.view.Stored.{Stored}
use Rattle.sc_view.specs.Views.{ViewMap}
use Rattle.sc_members.specs.Ids.{Ids, Has}
use Rattle.sc_msg.specs.declared.message.Message.{Message}
use Rattle.sc_msg.specs.declared.message.Body.TheVariants.{StoreAck, CollectReply}
use Rattle.sc_msg.specs.declared.message.CollectReply.{CollectReply as ReplyFields}
use Rattle.sc_msg.specs.declared.message.StoreAck.{StoreAck as AckFields}
use Rattle.sc_operations.specs.declared.session.OperationKind.{OperationKind}
use Rattle.sc_operations.specs.declared.session.OperationKind.TheVariants as kind
use Rattle.sc_operations.specs.declared.session.Phase.{Phase}
use Rattle.sc_operations.specs.declared.session.Session.{Session}
use Rattle.sc_operations.specs.declared.session.Session.TheVariants as session
use Rattle.sc_node.specs.Sessions.{kind_of}
use Rattle.sc_node.specs.State.{NodeState}
use Rattle.sc_node.specs.Nodes.{beta_threshold, message_from}
use Rattle.sc_world.specs.declared.event.WorldEvent.{WorldEvent}
use Rattle.sc_world.specs.declared.event.WorldEvent.TheVariants as event
use Rattle.sc_world.specs.declared.event.Sent.{Sent}
use Rattle.sc_world.specs.declared.event.WorldStep.{WorldStep}
use Rattle.sc_world.specs.declared.op.Op.{Op}
use Rattle.sc_world.specs.State.{WorldState}
use Rattle.sc_world.specs.Worlds.{clock, node_of, stepped, WasBefore}

-- the event that begins an operation of this kind
abbrev pub beginning_of : ℕ → OperationKind → WorldEvent
beginning_of node (kind.Store e) = event.Store node e.value
beginning_of node kind.Collect = event.Collect node

-- the node begins an operation at this event
abbrev pub begins : ℕ → WorldEvent → Bool
begins node (event.Store id value) = id == node
begins node (event.Collect id) = id == node
begins node e = false

-- the node begins a store at this event
abbrev pub begins_store : ℕ → WorldEvent → Bool
begins_store node (event.Store id value) = id == node
begins_store node e = false

-- how many operations the node begins in these events
abbrev pub operations_of : ℕ → List WorldEvent → ℕ
operations_of node events = count_by (begins node) events

-- how many stores the node begins in these events
abbrev pub stores_of : ℕ → List WorldEvent → ℕ
stores_of node events = count_by (begins_store node) events

-- what answers a phase of an operation
abbrev pub Answers : Type 1
Answers = ℕ → Message → Type 0

-- what acknowledges an operation
abbrev pub ack_of : Op → AckFields
ack_of o = record { to = o.node; tag = o.tag }

-- the sender's acknowledgement of what an operation stores, or stores back
abbrev pub IsAck : Op → Answers
IsAck o from m = m ≡ message_from from (StoreAck (ack_of o))

-- what replies to a collect, with this view
abbrev pub reply_of : Op → ViewMap → ReplyFields
reply_of o view = record { to = o.node; tag = o.tag; view = view }

-- the sender's reply to a collect
abbrev pub IsReply : Op → Answers
IsReply o from m = (view : ViewMap) × (m ≡ message_from from (CollectReply (reply_of o view)))

-- the sender's answer was sent, and delivered to the node at this place
pub record IsDelivered (w : WorldState) (P : Answers) (node place from : ℕ) : Type 0 where
  pub number : ℕ
  pub message : Message
  pub event : slice_get w.events place ≡ Some (event.Deliver number node)
  pub sent : slice_get w.sent number ≡ Some message
  pub answer : P from message

-- the sender's answer was sent, and delivered to the node after one place and before another
pub record IsAnswered (w : WorldState) (P : Answers) (node since until from : ℕ) : Type 0 where
  pub place : ℕ
  pub after : since < place
  pub before : place < until
  pub delivered : IsDelivered w P node place from

-- a phase that waits: each counted sender's answer was delivered since it began, and they are too few yet
pub record IsOpen (w : WorldState) (P : Answers) (node since : ℕ) (p : Phase) : Type 0 where
  pub few : set.len p.counted < p.threshold
  pub answered : (from : ℕ) → Has p.counted from → IsAnswered w P node since (clock w) from

-- the last of a phase's counted senders brought their number to the threshold
pub record IsFull (p : Phase) (others : Ids) (last : ℕ) : Type 0 where
  pub counted : p.counted ≡ set.insert others last
  pub few : set.len others < p.threshold
  pub reached : set.len p.counted ≡ p.threshold

-- a phase that ended: the answer that was delivered at its end was that of the last counted sender
pub record IsOver (w : WorldState) (P : Answers) (node since end : ℕ) (p : Phase) : Type 0 where
  pub later : since < end
  pub others : Ids
  pub last : ℕ
  pub full : IsFull p others last
  pub answered : (from : ℕ) → Has others from → IsAnswered w P node since end from
  pub finish : IsDelivered w P node end last

-- the threshold is that of the members whom the node knew as the phase began
pub record IsMeasured (w : WorldState) (node since : ℕ) (p : Phase) : Type 0 where
  pub before : WorldState
  pub was : WasBefore w since before
  pub state : NodeState
  pub at : fin.get before.nodes node ≡ Some state
  pub threshold : p.threshold ≡ beta_threshold state

-- a phase that has ended where there is an end, and waits where there is none
abbrev pub IsUntil : WorldState → Answers → ℕ → ℕ → Phase → Option ℕ → Type 0
IsUntil w P node since p None = IsOpen w P node since p
IsUntil w P node since p (Some end) = IsOver w P node since end p

-- a phase of the node that began at one place, and ended at another or waits
pub record IsPhase (w : WorldState) (P : Answers) (node since : ℕ) (p : Phase) (end : Option ℕ) : Type 0 where
  pub measured : IsMeasured w node since p
  pub until : IsUntil w P node since p end

-- how far the operation of a record has come, where its session is this
abbrev pub HasCome : WorldState → Op → Session → Type 0
-- a store has one phase, from its beginning to its end
HasCome w o (session.Store e b) = IsPhase w (IsAck o) o.node o.begin b.phase o.end
-- a collect has first its query phase
HasCome w o (session.Querying p) = (o.end ≡ None) × IsPhase w (IsReply o) o.node o.begin p None
-- and then stores back, from the place where the query phase ended
HasCome w o (session.StoringBack p b) =
    (turn : ℕ) × IsPhase w (IsReply o) o.node o.begin p (Some turn) × IsPhase w (IsAck o) o.node turn b.phase o.end

-- how far an operation has come
abbrev pub IsRunning : WorldState → Op → Type 0
IsRunning w o = HasCome w o o.session

-- the record of an operation is true of its world
pub record IsRecord (w : WorldState) (o : Op) : Type 0 where
  pub began : slice_get w.events o.begin ≡ Some (beginning_of o.node (kind_of o.session))
  -- its tag is how many operations its node began before it
  pub tagged : o.tag ≡ operations_of o.node (take o.begin w.events)
  -- the number of what it stores is one more than how many stores its node began before it
  pub numbered : (e : Stored) → kind_of o.session ≡ kind.Store e
      → e.number ≡ stores_of o.node (take o.begin w.events) + 1
  pub runs : IsRunning w o

-- each operation has one record
abbrev pub AreDistinct : List Op → Type 0
AreDistinct ops = (i k : ℕ) (a b : Op) → slice_get ops i ≡ Some a → slice_get ops k ≡ Some b → a.node ≡ b.node → a.tag ≡ b.tag → i ≡ k

-- the record of the operation that began at this place
pub record HasBegun (w : WorldState) (place : ℕ) : Type 0 where
  pub op : Op
  pub among : Among op w.ops
  pub at : op.begin ≡ place

pub record AreRecords (w : WorldState) : Type 0 where
  pub distinct : AreDistinct w.ops
  pub each : (o : Op) → Among o w.ops → IsRecord w o
  -- each event that begins an operation has the record of that operation
  pub all : (place node : ℕ) (k : OperationKind) → slice_get w.events place ≡ Some (beginning_of node k) → HasBegun w place

-- the message of this number is one of these
abbrev pub IsOneOf : ℕ → Sent → Type 0
IsOneOf number s = (s.first ≤ number) × (number < s.first + s.count)

-- the message of this number was sent by an event of its sender
pub record WasSent (w : WorldState) (number : ℕ) (m : Message) : Type 0 where
  pub place : ℕ
  pub cause : WorldEvent
  pub at : slice_get w.events place ≡ Some cause
  pub by : node_of cause ≡ m.from
  pub before : WorldState
  pub was : WasBefore w place before
  pub told : WorldStep
  pub after : WorldState
  pub steps : stepped before cause ≡ Ok (told, after)
  pub sends : IsOneOf number told.sent

-- each message was sent by an event of its sender
abbrev pub AreSent : WorldState → Type 0
AreSent w = (number : ℕ) (m : Message) → slice_get w.sent number ≡ Some m → WasSent w number m
