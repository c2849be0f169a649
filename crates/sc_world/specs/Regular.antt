-- Regularity.
use Rattle.std.specs.Prelude.{◌≡◌, ℕ, ◌<◌, Some, Ok, slice_get}
use Rattle.std.specs.FinMap as fin
use Rattle.sc_view.specs.declared.view.Stored.{Stored}
use Rattle.sc_view.specs.Views.{ViewMap, IsCoveredBy}
use Rattle.sc_operations.specs.declared.progress.OpResult.TheVariants as op_result
use Rattle.sc_operations.specs.declared.progress.Ended.{Ended}
use Rattle.sc_operations.specs.declared.session.OperationKind.TheVariants as kind
use Rattle.sc_operations.specs.Sessions.{kind_of, stored}
use Rattle.sc_world.specs.declared.event.WorldEvent.{WorldEvent}
use Rattle.sc_world.specs.declared.event.WorldEvent.TheVariants as event
use Rattle.sc_world.specs.declared.event.WorldStep.{WorldStep}
use Rattle.sc_world.specs.declared.op.Op.{Op}
use Rattle.sc_world.specs.State.{WorldState}
use Rattle.sc_world.specs.Worlds.{clock, node_of, stepped}
use Rattle.sc_world.specs.Operations.{Among, IsBefore, Meets, returned, Holds}

-- the node's collect of this tag ended at this place, and returned this view
pub record HasReturned (w : WorldState) (place node tag : ℕ) (view : ViewMap) : Type 0 where
  pub op : Op
  pub among : Among op w.ops
  pub by : op.node ≡ node
  pub tagged : op.tag ≡ tag
  pub ended : op.end ≡ Some place
  pub returned : returned op ≡ Some view

-- the node's store of this tag ended at this place
pub record HasStored (w : WorldState) (place node tag : ℕ) : Type 0 where
  pub op : Op
  pub among : Among op w.ops
  pub by : op.node ≡ node
  pub tagged : op.tag ≡ tag
  pub ended : op.end ≡ Some place
  pub entry : Stored
  pub kind : kind_of op.session ≡ kind.Store entry

-- what an event tells of an operation that ended is what the operation's record says in the next world
pub record EndIsRecorded (w : WorldState) (e : WorldEvent) (told : WorldStep) (next : WorldState) : Type 0 where
  pub returned : (x : Ended) (view : ViewMap) → told.ended ≡ Some x → x.what ≡ op_result.Returned view → HasReturned next (clock w) (node_of e) x.tag view
  pub stored : (x : Ended) → told.ended ≡ Some x → x.what ≡ op_result.Stored → HasStored next (clock w) (node_of e) x.tag

-- so it is at each event that may come next
abbrev pub EndsAreRecorded : WorldState → Type 0
EndsAreRecorded w = (e : WorldEvent) (told : WorldStep) (next : WorldState) → stepped w e ≡ Ok (told, next) → EndIsRecorded w e told next

-- an operation whose record ends at an event is that of the event's node, and the event tells that it ended
pub record EndIsTold (w : WorldState) (e : WorldEvent) (says : WorldStep) (next : WorldState) : Type 0 where
  pub by : (o : Op) → Among o next.ops → o.end ≡ Some (clock w) → o.node ≡ node_of e
  pub told : (o : Op) → Among o next.ops → o.end ≡ Some (clock w) → (x : Ended) × (says.ended ≡ Some x) × (x.tag ≡ o.tag)

-- so it is at each event that may come next
abbrev pub EndsAreTold : WorldState → Type 0
EndsAreTold w = (e : WorldEvent) (says : WorldStep) (next : WorldState) → stepped w e ≡ Ok (says, next) → EndIsTold w e says next

-- the node began to store this, at an earlier place
pub record WasStored (w : WorldState) (place node : ℕ) (e : Stored) : Type 0 where
  pub begin : ℕ
  pub earlier : begin < place
  pub event : slice_get w.events begin ≡ Some (event.Store node e.value)
  pub op : Op
  pub among : Among op w.ops
  pub began : op.begin ≡ begin
  pub by : op.node ≡ node
  pub kind : kind_of op.session ≡ kind.Store e

-- each entry is the number and the value of a store that began at an earlier place
pub record IsGenuine (w : WorldState) (place : ℕ) (v : ViewMap) : Type 0 where
  pub stored : (id : ℕ) (e : Stored) → fin.get v id ≡ Some e → WasStored w place id e

-- What is said of the view that an operation stores, or stores back: of an ended collect this is the view that it
-- returned.
pub record IsRegular (w : WorldState) : Type 0 where
  -- it holds only what nodes began to store before the operation ended
  pub genuine : (c : Op) (v : ViewMap) (place : ℕ) → Among c w.ops → stored c.session ≡ Some v → c.end ≡ Some place → IsGenuine w place v
  -- it holds each store that ended before the collect began, and that meets it
  pub holds : (s c : Op) (e : Stored) (v : ViewMap) → Among s w.ops → Among c w.ops → kind_of s.session ≡ kind.Store e
      → stored c.session ≡ Some v → IsBefore s c → Meets s c → Holds v s.node e.number
  -- it lies above what an operation stored, or stored back, that ended before the collect began, and that meets it
  pub above : (b c : Op) (u v : ViewMap) → Among b w.ops → Among c w.ops → stored b.session ≡ Some u → stored c.session ≡ Some v
      → IsBefore b c → Meets b c → IsCoveredBy u v
