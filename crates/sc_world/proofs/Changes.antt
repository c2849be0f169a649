-- What one accepted event may change, whichever message it delivers: the rules on which regularity stands.
use Rattle.std.proofs.Common.{◌≡◌, ℕ, ◌+◌, ◌≤◌, ◌<◌, Option, Some, None, ◌⊎◌}
use Rattle.std.specs.FinMap as fin
use Rattle.std.specs.FinSet as set
use Rattle.sc_view.specs.declared.view.Stored.{Stored}
use Rattle.sc_view.specs.Views.{ViewMap, number_at, IsBelow}
use Rattle.sc_members.specs.Ids.{Has}
use Rattle.sc_msg.specs.declared.message.Message.{Message}
use Rattle.sc_msg.specs.declared.message.Body.{Body}
use Rattle.sc_msg.specs.declared.message.Body.TheVariants.{Store, StoreAck, CollectQuery, CollectReply}
use Rattle.sc_msg.specs.declared.message.CollectReply.{CollectReply as ReplyFields}
use Rattle.sc_msg.specs.declared.message.Store.{Store as StoreFields}
use Rattle.sc_msg.specs.declared.message.StoreAck.{StoreAck as AckFields}
use Rattle.sc_operations.specs.declared.session.OperationKind.TheVariants as kind
use Rattle.sc_node.specs.Sessions.{kind_of, stored, repliers, ackers}
use Rattle.sc_node.specs.State.{NodeState}
use Rattle.sc_node.specs.Nodes.{message_from}
use Rattle.sc_world.specs.declared.op.Op.{Op}
use Rattle.sc_world.specs.State.{WorldState}
use Rattle.sc_world.specs.Worlds.{clock}
use Rattle.sc_world.specs.Records.{Among, ack_of, reply_of}

abbrev pub view_of : Option NodeState → ViewMap
view_of None = fin.empty
view_of (Some n) = n.view

-- the view of a node
abbrev pub view_at : WorldState → ℕ → ViewMap
view_at w id = view_of (fin.get w.nodes id)

abbrev pub EndedBefore : Op → Op → Type 0
EndedBefore o c = (e : ℕ) × (o.end ≡ Some e) × (e < c.begin)

-- an operation's tag, where a message belongs to it
abbrev pub IsBodyAbout : ℕ → Body → ℕ → ℕ → Type 0
IsBodyAbout from (Store s) node tag = (from ≡ node) × (s.tag ≡ tag)
IsBodyAbout from (StoreAck a) node tag = (a.to ≡ node) × (a.tag ≡ tag)
IsBodyAbout from (CollectQuery t) node tag = (from ≡ node) × (t ≡ tag)
IsBodyAbout from (CollectReply r) node tag = (r.to ≡ node) × (r.tag ≡ tag)
IsBodyAbout from b node tag = ⊥

-- the message belongs to this operation
abbrev pub IsAbout : Message → ℕ → ℕ → Type 0
IsAbout m node tag = IsBodyAbout m.from m.body node tag

-- the same operation, later
pub record Continues (o o' : Op) : Type 0 where
  pub node : o'.node ≡ o.node
  pub tag : o'.tag ≡ o.tag
  pub begin : o'.begin ≡ o.begin
  pub kind : kind_of o'.session ≡ kind_of o.session
  pub running : o.end ≡ None

-- an acknowledgement is counted
pub record IsAcknowledged (o o' : Op) (view : ViewMap) (from place : ℕ) : Type 0 where
  pub same : Continues o o'
  pub was : stored o.session ≡ Some view
  pub is : stored o'.session ≡ Some view
  pub repliers : repliers o'.session ≡ repliers o.session
  pub ackers : ackers o'.session ≡ set.insert (ackers o.session) from
  pub ends : (o'.end ≡ None) ⊎ (o'.end ≡ Some place)

-- a reply is counted, and may end the query phase
pub record IsReplied (o o' : Op) (learned after : ViewMap) (from : ℕ) : Type 0 where
  pub same : Continues o o'
  pub was : stored o.session ≡ None
  pub repliers : repliers o'.session ≡ set.insert (repliers o.session) from
  pub learns : IsBelow learned after
  pub is : (stored o'.session ≡ None) ⊎ ((stored o'.session ≡ Some after) × (ackers o'.session ≡ set.empty))
  pub stays : o'.end ≡ None

-- the view of a store has its number, or a larger one
abbrev pub HasNumber : Op → Type 0
HasNumber o = (e : Stored) → kind_of o.session ≡ kind.Store e → (v : ViewMap) × (stored o.session ≡ Some v) × (e.number ≤ number_at v o.node)

pub record IsBegun (w : WorldState) (o : Op) : Type 0 where
  pub fresh : (m : Message) → Among m w.sent → IsAbout m o.node o.tag → ⊥
  pub begin : o.begin ≡ clock w
  pub end : o.end ≡ None
  pub repliers : repliers o.session ≡ set.empty
  pub ackers : ackers o.session ≡ set.empty
  pub number : HasNumber o

-- where an operation's record comes from
pub data OpFrom (w w' : WorldState) (o' : Op) : Type 0 where
  Kept : Among o' w.ops → OpFrom w w' o'
  Begun : IsBegun w o' → OpFrom w w' o'
  Acknowledged : (o : Op) (view : ViewMap) (from : ℕ) → Among o w.ops → Among (message_from from (StoreAck (ack_of o))) w.sent
      → IsAcknowledged o o' view from (clock w) → OpFrom w w' o'
  Replied : (o : Op) (view : ViewMap) (from : ℕ) → Among o w.ops → Among (message_from from (CollectReply (reply_of o view))) w.sent
      → IsReplied o o' view (view_at w' o'.node) from → OpFrom w w' o'

-- what is known of a message of q as it is sent
abbrev pub IsBodySent : WorldState → WorldState → ℕ → Body → Type 0
IsBodySent w w' q (Store s) = (o : Op) → Among o w'.ops → o.node ≡ q → o.tag ≡ s.tag → stored o.session ≡ Some s.view
IsBodySent w w' q (StoreAck a) = (s : StoreFields) × Among (message_from a.to (Store s)) w.sent × (s.tag ≡ a.tag) × IsBelow s.view (view_at w' q)
IsBodySent w w' q (CollectReply r) = Among (message_from r.to (CollectQuery r.tag)) w.sent × IsBelow (view_at w q) r.view
IsBodySent w w' q b = Unit {0}

abbrev pub IsSent : WorldState → WorldState → Message → Type 0
IsSent w w' m = IsBodySent w w' m.from m.body

pub record IsChange (w w' : WorldState) : Type 0 where
  pub clock : clock w' ≡ clock w + 1
  pub grows : (id : ℕ) → IsBelow (view_at w id) (view_at w' id)
  pub ops : (o' : Op) → Among o' w'.ops → OpFrom w w' o'
  pub sent : (m : Message) → Among m w'.sent → Among m w.sent ⊎ IsSent w w' m

pub record MeetsEarlier (w : WorldState) : Type 0 where
  -- a collect that began after a store had ended, and that meets it, holds it
  pub stores : (s c : Op) (e : Stored) (v : ViewMap) (q : ℕ) → Among s w.ops → Among c w.ops → kind_of s.session ≡ kind.Store e → EndedBefore s c
      → stored c.session ≡ Some v → Has (ackers s.session) q → Has (repliers c.session) q → e.number ≤ number_at v s.node
  -- it lies above what an earlier collect stored back, where it meets it
  pub collects : (b c : Op) (u v : ViewMap) (q : ℕ) → Among b w.ops → Among c w.ops → EndedBefore b c → stored b.session ≡ Some u
      → stored c.session ≡ Some v → Has (ackers b.session) q → Has (repliers c.session) q → IsBelow u v

-- view holds whatever q had acknowledged before c began
abbrev pub KnownBy : WorldState → Op → ℕ → ViewMap → Type 0
KnownBy w c q view = (o : Op) (v : ViewMap) → Among o w.ops → EndedBefore o c → stored o.session ≡ Some v → Has (ackers o.session) q → IsBelow v view

pub record IsSound (w : WorldState) : Type 0 where
  pub numbers : (o : Op) → Among o w.ops → HasNumber o
  pub began : (o : Op) → Among o w.ops → o.begin < clock w
  pub acked : (o : Op) (v : ViewMap) (q : ℕ) → Among o w.ops → stored o.session ≡ Some v → Has (ackers o.session) q → IsBelow v (view_at w q)
  pub stores : (p : ℕ) (s : StoreFields) → Among (message_from p (Store s)) w.sent → (o : Op) → Among o w.ops → o.node ≡ p → o.tag ≡ s.tag
      → stored o.session ≡ Some s.view
  pub acks : (q : ℕ) (a : AckFields) → Among (message_from q (StoreAck a)) w.sent → (o : Op) → Among o w.ops → o.node ≡ a.to → o.tag ≡ a.tag
      → (v : ViewMap) × (stored o.session ≡ Some v) × IsBelow v (view_at w q)
  pub replies : (q : ℕ) (r : ReplyFields) → Among (message_from q (CollectReply r)) w.sent → (c : Op) → Among c w.ops → c.node ≡ r.to → c.tag ≡ r.tag
      → KnownBy w c q r.view
  pub gathering : (c : Op) (q : ℕ) → Among c w.ops → stored c.session ≡ None → Has (repliers c.session) q → KnownBy w c q (view_at w c.node)
  pub gathered : (c : Op) (v : ViewMap) (q : ℕ) → Among c w.ops → stored c.session ≡ Some v → Has (repliers c.session) q → KnownBy w c q v
