-- How the records of operations follow the nodes' own state.
use Rattle.std.proofs.Common.{◌≡◌, ℕ, ◌≤◌, ◌<◌, cond, ◌==◌, is_none, Option, Some, None, ◌⊎◌}
use Rattle.std.specs.FinMap as fin
use Rattle.std.specs.FinSet as set
use Rattle.sc_view.specs.declared.view.Stored.{Stored}
use Rattle.sc_view.specs.Views.{ViewMap, number_at, IsBelow, merge}
use Rattle.sc_msg.specs.declared.message.Message.{Message}
use Rattle.sc_msg.specs.declared.message.Body.{Body}
use Rattle.sc_msg.specs.declared.message.Body.TheVariants.{StoreAck, CollectReply}
use Rattle.sc_msg.specs.declared.message.CollectReply.{CollectReply as ReplyFields}
use Rattle.sc_msg.specs.declared.message.StoreAck.{StoreAck as AckFields}
use Rattle.sc_operations.specs.declared.session.OperationKind.TheVariants as kind
use Rattle.sc_operations.specs.declared.session.Phase.{Phase}
use Rattle.sc_operations.specs.declared.session.StoreBack.{StoreBack}
use Rattle.sc_operations.specs.declared.session.Session.{Session}
use Rattle.sc_operations.specs.declared.session.Session.TheVariants as session
use Rattle.sc_operations.specs.declared.progress.Advance.TheVariants as advance
use Rattle.sc_operations.specs.declared.progress.Progress.{Progress}
use Rattle.sc_world.specs.declared.act.BegunOp.{BegunOp}
use Rattle.sc_node.specs.Sessions.{kind_of, back_of, open_phase, stored, repliers, ackers, apply, ends, is_reached, count_sender}
use Rattle.sc_node.specs.State.{NodeState}
use Rattle.sc_node.specs.Nodes.{message_from, view_after, beta_threshold}
use Rattle.sc_world.specs.declared.event.WorldEvent.{WorldEvent}
use Rattle.sc_world.specs.declared.op.Op.{Op}
use Rattle.sc_world.specs.State.{WorldState}
use Rattle.sc_world.specs.Worlds.{Outcome, end_at}
use Rattle.sc_world.specs.Records.{Among, ack_of, reply_of}
use Rattle.sc_world.proofs.Changes.{IsAbout, IsBodyAbout}

-- what a node keeps of an operation: its session while it is open
abbrev pub open_session : Op → Option Session
open_session o = cond (is_none o.end) (Some o.session) None

pub record HasOwner (w : WorldState) (o : Op) : Type 0 where
  pub node : NodeState
  pub at : fin.get w.nodes o.node ≡ Some node
  pub tag : o.tag < node.operations
  pub session : fin.get node.sessions o.tag ≡ open_session o

pub record IsLinked (w : WorldState) : Type 0 where
  pub named : (q : ℕ) (n : NodeState) → fin.get w.nodes q ≡ Some n → n.id ≡ q
  pub owned : (o : Op) → Among o w.ops → HasOwner w o
  pub known : (m : Message) → Among m w.sent → (p t : ℕ) → IsAbout m p t → (n : NodeState) × (fin.get w.nodes p ≡ Some n) × (t < n.operations)

-- an event at a node of a linked world
pub record Site : Type 0 where
  pub world : WorldState
  pub event : WorldEvent
  pub id : ℕ
  pub node : NodeState
  pub at : fin.get world.nodes id ≡ Some node
  pub linked : IsLinked world

abbrev pub site_of : (w : WorldState) (e : WorldEvent) (q : ℕ) (n : NodeState) → fin.get w.nodes q ≡ Some n → IsLinked w → Site
site_of w e q n at linked = record { world = w; event = e; id = q; node = n; at = at; linked = linked }

-- the record of an operation that begins at a node and a place
abbrev pub new_op : ℕ → ℕ → BegunOp → Op
new_op node place b = record { node = node; tag = b.tag; begin = place; end = None; session = b.session }

abbrev pub session_moved : Progress → Option Session → Option Session
session_moved p None = None
session_moved p (Some s) = cond (ends p.advance) None (Some (apply p s))

-- a session after its node's progress
abbrev pub session_after : Option Progress → ℕ → Option Session → Option Session
session_after None t s = s
session_after (Some p) t s = cond (t == p.tag) (session_moved p s) s

abbrev pub IsBegunAt : NodeState → NodeState → Option BegunOp → Type 0
IsBegunAt n n' None = Unit {0}
IsBegunAt n n' (Some b) = (b.tag ≡ n.operations) × (fin.get n'.sessions b.tag ≡ Some b.session) × (b.tag < n'.operations)

-- what each event keeps of a node
pub record IsTransition (n : NodeState) (r : Outcome) : Type 0 where
  pub id : r.node.id ≡ n.id
  pub grows : IsBelow n.view r.node.view
  pub more : n.operations ≤ r.node.operations
  pub sessions : (t : ℕ) → t < n.operations → fin.get r.node.sessions t ≡ session_after r.progress t (fin.get n.sessions t)
  pub begun : IsBegunAt n r.node r.begun

-- an acknowledgement is counted
pub record AckMakes (s s' : Session) (from : ℕ) : Type 0 where
  pub kind : kind_of s' ≡ kind_of s
  pub view : stored s' ≡ stored s
  pub replied : repliers s' ≡ repliers s
  pub acked : ackers s' ≡ set.insert (ackers s) from

-- a reply is counted, and may begin the store-back
pub record ReplyMakes (s s' : Session) (from : ℕ) (v : ViewMap) : Type 0 where
  pub kind : kind_of s' ≡ kind_of s
  pub replied : repliers s' ≡ set.insert (repliers s) from
  pub view : (stored s' ≡ None) ⊎ ((stored s' ≡ Some v) × (ackers s' ≡ set.empty))

-- what acknowledges an operation is known by whose it is
pub ack_is : (o : Op) (a : AckFields) → a.to ≡ o.node → a.tag ≡ o.tag → a ≡ ack_of o
ack_is o a to tag = λ i. record { to = to i; tag = tag i }

-- and so is what replies to it
pub reply_is : (o : Op) (r : ReplyFields) → r.to ≡ o.node → r.tag ≡ o.tag → r ≡ reply_of o r.view
reply_is o r to tag = λ i. record { to = to i; tag = tag i; view = r.view }

-- an acknowledgement that moves an operation of the node
pub record IsAckMove (n : NodeState) (from : ℕ) (b : Body) (p : Progress) : Type 0 where
  pub session : Session
  pub back : StoreBack
  pub was : fin.get n.sessions p.tag ≡ Some session
  pub stores : back_of session ≡ Some back
  pub ack : AckFields
  pub body : b ≡ StoreAck ack
  pub to : ack.to ≡ n.id
  pub tag : ack.tag ≡ p.tag
  pub sender : p.sender ≡ from
  pub advance : p.advance ≡ cond (is_reached (count_sender (open_phase session) from)) advance.Ended advance.Counted

-- a reply that moves one
pub record IsReplyMove (n : NodeState) (from : ℕ) (b : Body) (p : Progress) : Type 0 where
  pub phase : Phase
  pub was : fin.get n.sessions p.tag ≡ Some (session.Querying phase)
  pub reply : ReplyFields
  pub body : b ≡ CollectReply reply
  pub to : reply.to ≡ n.id
  pub tag : reply.tag ≡ p.tag
  pub sender : p.sender ≡ from
  pub learned : merge n.view reply.view ≡ view_after n b
  pub advance : p.advance ≡ cond (is_reached (count_sender phase from)) (advance.Turned (beta_threshold n) (merge n.view reply.view)) advance.Counted

abbrev pub IsMove : NodeState → ℕ → Body → Option Progress → Type 0
IsMove n from b None = Unit {0}
IsMove n from b (Some p) = IsAckMove n from b p ⊎ IsReplyMove n from b p

pub record IsAckProgress (w : WorldState) (q : ℕ) (n : NodeState) (p : Progress) : Type 0 where
  pub session : Session
  pub view : ViewMap
  pub was : fin.get n.sessions p.tag ≡ Some session
  pub held : stored session ≡ Some view
  pub ack : AckFields
  pub sent : Among (message_from p.sender (StoreAck ack)) w.sent
  pub to : ack.to ≡ q
  pub tag : ack.tag ≡ p.tag
  pub makes : AckMakes session (apply p session) p.sender

pub record IsReplyProgress (w : WorldState) (q : ℕ) (n : NodeState) (r : Outcome) (p : Progress) : Type 0 where
  pub session : Session
  pub was : fin.get n.sessions p.tag ≡ Some session
  pub held : stored session ≡ None
  pub reply : ReplyFields
  pub sent : Among (message_from p.sender (CollectReply reply)) w.sent
  pub to : reply.to ≡ q
  pub tag : reply.tag ≡ p.tag
  pub makes : ReplyMakes session (apply p session) p.sender r.node.view
  pub stays : (place : ℕ) → end_at place p.advance ≡ None
  pub learns : IsBelow reply.view r.node.view

abbrev pub IsProgress : WorldState → ℕ → NodeState → Outcome → Option Progress → Type 0
IsProgress w q n r None = Unit {0}
IsProgress w q n r (Some p) = IsAckProgress w q n p ⊎ IsReplyProgress w q n r p

pub record IsFreshSession (q : ℕ) (s : Session) : Type 0 where
  pub replied : repliers s ≡ set.empty
  pub acked : ackers s ≡ set.empty
  pub number : (e : Stored) → kind_of s ≡ kind.Store e → (v : ViewMap) × (stored s ≡ Some v) × (e.number ≤ number_at v q)

abbrev pub IsFresh : ℕ → Option BegunOp → Type 0
IsFresh q None = Unit {0}
IsFresh q (Some b) = IsFreshSession q b.session

-- each message that is sent belongs to an operation that has begun
abbrev pub IsBodyKnown : WorldState → ℕ → Body → Type 0
IsBodyKnown w q b = (p t : ℕ) → IsBodyAbout q b p t → (n : NodeState) × (fin.get w.nodes p ≡ Some n) × (t < n.operations)
