-- Views hold only what was stored.
use Rattle.std.proofs.Common.{◌≡◌, ℕ, ◌+◌, ◌<◌, Option, Some, None, ◌⊎◌}
use Rattle.std.specs.FinMap as fin
use Rattle.sc_view.specs.declared.view.Stored.{Stored}
use Rattle.sc_view.specs.Views.{ViewMap}
use Rattle.sc_msg.specs.declared.message.Message.{Message}
use Rattle.sc_msg.specs.declared.message.Body.{Body}
use Rattle.sc_msg.specs.declared.message.Body.TheVariants.{EnterEcho, Store, StoreEcho, CollectReply}
use Rattle.sc_operations.specs.declared.session.OperationKind.TheVariants as kind
use Rattle.sc_node.specs.Sessions.{kind_of, stored}
use Rattle.sc_world.specs.declared.op.Op.{Op}
use Rattle.sc_world.specs.State.{WorldState}
use Rattle.sc_world.specs.Worlds.{clock}
use Rattle.sc_world.specs.Records.{Among}
use Rattle.sc_world.proofs.Changes.{view_at, OpFrom, IsBegun}

-- there is a record of a store that the node began before the place
pub record WasBegun (w : WorldState) (place id : ℕ) (e : Stored) : Type 0 where
  pub op : Op
  pub among : Among op w.ops
  pub node : op.node ≡ id
  pub kind : kind_of op.session ≡ kind.Store e
  pub begin : op.begin < place

pub record IsTrue (w : WorldState) (place : ℕ) (v : ViewMap) : Type 0 where
  pub begun : (id : ℕ) (e : Stored) → fin.get v id ≡ Some e → WasBegun w place id e

-- the view in a message
abbrev pub body_view : Body → Option ViewMap
body_view (EnterEcho e) = Some e.view
body_view (Store s) = Some s.view
body_view (StoreEcho v) = Some v
body_view (CollectReply r) = Some r.view
body_view b = None

-- the end of an operation, and now where it is open
abbrev pub limit_by : ℕ → Option ℕ → ℕ
limit_by now None = now
limit_by now (Some e) = e

abbrev pub limit : WorldState → Op → ℕ
limit w o = limit_by (clock w) o.end

pub record IsTruthful (w : WorldState) : Type 0 where
  pub views : (q : ℕ) → IsTrue w (clock w) (view_at w q)
  pub sent : (m : Message) → Among m w.sent → (v : ViewMap) → body_view m.body ≡ Some v → IsTrue w (clock w) v
  pub kept : (o : Op) → Among o w.ops → (v : ViewMap) → stored o.session ≡ Some v → IsTrue w (limit w o) v

-- the same operation is there, perhaps in a later state
pub record IsThere (w' : WorldState) (o : Op) : Type 0 where
  pub op : Op
  pub among : Among op w'.ops
  pub node : op.node ≡ o.node
  pub kind : kind_of op.session ≡ kind_of o.session
  pub begin : op.begin ≡ o.begin

pub record IsTold (w w' : WorldState) : Type 0 where
  pub next : clock w' ≡ clock w + 1
  pub persists : (o : Op) → Among o w.ops → IsThere w' o
  pub ops : (o : Op) → Among o w'.ops → OpFrom w w' o
  pub views : (q : ℕ) → IsTrue w' (clock w') (view_at w' q)
  pub sent : (m : Message) → Among m w'.sent → Among m w.sent ⊎ ((v : ViewMap) → body_view m.body ≡ Some v → IsTrue w' (clock w') v)
  pub begun : (o : Op) → Among o w'.ops → IsBegun w o → (v : ViewMap) → stored o.session ≡ Some v → IsTrue w' (clock w') v
