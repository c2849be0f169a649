-- What each event makes of a world.
use Rattle.std.specs.Prelude.{◌≡◌, ℕ, Bool, true, false, ◌==◌, ◌&&◌, List, [], ◌∷◌, ◌++◌, map, length, take, Option, Some, None, Result, Ok, Err, if◌then◌else◌, slice_get}
use Rattle.std.specs.Ordering.{nat_cmp}
use Rattle.std.specs.FinMap as fin
use Rattle.std.specs.FinSet as set
use Rattle.sc_members.specs.Members.{Config}
use Rattle.sc_msg.specs.declared.message.Message.{Message}
use Rattle.sc_operations.specs.declared.progress.Advance.{Advance}
use Rattle.sc_operations.specs.declared.progress.Advance.TheVariants as advance
use Rattle.sc_operations.specs.declared.progress.Progress.{Progress}
use Rattle.sc_operations.specs.declared.progress.Ended.{Ended}
use Rattle.sc_node.specs.declared.answer.Begun.{Begun}
use Rattle.sc_node.specs.declared.answer.Delivered.{Delivered}
use Rattle.reasons.specs.declared.Reason.{Reason}
use Rattle.reasons.specs.declared.Reason.TheVariants as reasons
use Rattle.sc_node.specs.Sessions.{apply}
use Rattle.sc_node.specs.State.{NodeState}
use Rattle.sc_node.specs.Nodes.{delivered, store_begun, collect_begun, left, entered, founder, are_founders}
use Rattle.sc_world.specs.declared.act.Act.{Act}
use Rattle.sc_world.specs.declared.act.Act.TheVariants as act
use Rattle.sc_world.specs.declared.act.BegunOp.{BegunOp}
use Rattle.sc_world.specs.declared.event.WorldEvent.{WorldEvent}
use Rattle.sc_world.specs.declared.event.WorldEvent.TheVariants as event
use Rattle.sc_world.specs.declared.event.WorldStep.{WorldStep}
use Rattle.sc_world.specs.declared.op.Op.{Op}
use Rattle.sc_world.specs.State.{WorldState}

-- how many events were accepted: the place of the next one
abbrev pub clock : WorldState → ℕ
clock w = length w.events

-- what an event makes of one node, and what the node tells of it
pub record Outcome : Type 0 where
  pub node : NodeState
  pub outs : List Message
  pub progress : Option Progress
  pub begun : Option BegunOp
  pub ended : Option Ended

abbrev pub of_entered : NodeState × List Message → Outcome
of_entered e = record { node = e.0; outs = e.1; progress = None; begun = None; ended = None }

abbrev pub of_left : List Message × NodeState → Outcome
of_left l = record { node = l.1; outs = l.0; progress = None; begun = None; ended = None }

abbrev pub of_begun : Begun × NodeState → Outcome
of_begun b = record { node = b.1; outs = b.0.outs; progress = None; begun = Some (record { tag = b.0.tag; session = b.0.session }); ended = None }

abbrev pub of_delivered : Delivered × NodeState → Outcome
of_delivered d = record { node = d.1; outs = d.0.outs; progress = d.0.progress; begun = None; ended = d.0.ended }

-- a node's answer, or its refusal as the world's
abbrev pub by_node : {A : Type 0} → (A → Outcome) → Result A Reason → Result Outcome Reason
by_node f (Ok a) = Ok (f a)
by_node f (Err e) = Err e

abbrev pub end_at : ℕ → Advance → Option ℕ
end_at place advance.Ended = Some place
end_at place a = None

-- the record of an operation that moves at a place
abbrev pub moved : ℕ → Progress → Op → Op
moved place p o = record { node = o.node; tag = o.tag; begin = o.begin; end = end_at place p.advance; session = apply p o.session }

-- a record after its node's progress
abbrev pub advanced : ℕ → ℕ → Option Progress → Op → Op
advanced node place None o = o
advanced node place (Some p) o = if o.node == node && o.tag == p.tag then moved place p o else o

-- the record of an operation that begins at a place
abbrev pub op_begun : ℕ → ℕ → Option BegunOp → List Op
op_begun node place None = []
op_begun node place (Some b) = record { node = node; tag = b.tag; begin = place; end = None; session = b.session } ∷ []

abbrev pub tag_of : Option BegunOp → Option ℕ
tag_of None = None
tag_of (Some b) = Some b.tag

-- the world after an event at a node
abbrev pub after : WorldState → WorldEvent → ℕ → Outcome → WorldState
after w e node r =
    record {
      config = w.config;
      founders = w.founders;
      nodes = fin.insert w.nodes node r.node;
      crashed = w.crashed;
      events = w.events ++ e ∷ [];
      sent = w.sent ++ r.outs;
      ops = map (advanced node (clock w) r.progress) w.ops ++ op_begun node (clock w) r.begun;
    }

abbrev pub told : WorldState → Outcome → WorldStep
told w r = record { tag = tag_of r.begun; ended = r.ended; sent = record { first = length w.sent; count = length r.outs } }

abbrev pub took : WorldState → WorldEvent → ℕ → Result Outcome Reason → Result (WorldStep × WorldState) Reason
took w e node (Ok r) = Ok (told w r, after w e node r)
took w e node (Err f) = Err f

abbrev pub live : Bool → Option NodeState → Option NodeState
live true n = None
live false None = None
live false (Some n) = if n.gone then None else Some n

-- the node of an id, where it has neither left nor crashed
abbrev pub live_at : WorldState → ℕ → Option NodeState
live_at w id = live (set.contains w.crashed id) (fin.get w.nodes id)

-- what a node does, where there is one
abbrev pub by_live : Option NodeState → (NodeState → Result Outcome Reason) → Result Outcome Reason
by_live None f = Err reasons.NoSuchNode
by_live (Some n) f = f n

-- a live node takes an event
abbrev pub acts : WorldState → WorldEvent → ℕ → (NodeState → Result Outcome Reason) → Result (WorldStep × WorldState) Reason
acts w e id f = took w e id (by_live (live_at w id) f)

abbrev pub enters : WorldState → ℕ → Option NodeState → Result (WorldStep × WorldState) Reason
enters w id None = took w (event.Enter id) id (Ok (of_entered (entered w.config id)))
enters w id (Some n) = Err reasons.IdUsed

-- an event that sends nothing
abbrev pub silent : WorldState → WorldStep
silent w = record { tag = None; ended = None; sent = record { first = length w.sent; count = 0 } }

abbrev pub crashes : WorldState → ℕ → Option NodeState → Result (WorldStep × WorldState) Reason
crashes w id None = Err reasons.NoSuchNode
crashes w id (Some n) = Ok (silent w, record w { crashed = set.insert w.crashed id; events = w.events ++ event.Crash id ∷ [] })

abbrev pub leaves : NodeState → Result Outcome Reason
leaves n = by_node of_left (left n)

abbrev pub stores : List ℕ → NodeState → Result Outcome Reason
stores value n = by_node of_begun (store_begun n value)

abbrev pub collects : NodeState → Result Outcome Reason
collects n = by_node of_begun (collect_begun n)

abbrev pub delivers : Option Message → NodeState → Result Outcome Reason
delivers None n = Err reasons.NeverSent
delivers (Some m) n = by_node of_delivered (delivered n m)

-- what a node does at an act
abbrev pub acted : List Message → Act → NodeState → Result Outcome Reason
acted sent act.Leave n = leaves n
acted sent (act.Store value) n = stores value n
acted sent act.Collect n = collects n
acted sent (act.Deliver number) n = delivers (slice_get sent number) n

-- the event at which a node so acts
abbrev pub event_of : ℕ → Act → WorldEvent
event_of id act.Leave = event.Leave id
event_of id (act.Store value) = event.Store id value
event_of id act.Collect = event.Collect id
event_of id (act.Deliver number) = event.Deliver number id

-- the node of an event
abbrev pub node_of : WorldEvent → ℕ
node_of (event.Enter id) = id
node_of (event.Leave id) = id
node_of (event.Crash id) = id
node_of (event.Store id value) = id
node_of (event.Collect id) = id
node_of (event.Deliver number id) = id

-- what an event answers and makes of a world, or why it is refused
abbrev pub stepped : WorldState → WorldEvent → Result (WorldStep × WorldState) Reason
stepped w (event.Enter id) = enters w id (fin.get w.nodes id)
stepped w (event.Leave id) = acts w (event.Leave id) id (acted w.sent act.Leave)
stepped w (event.Crash id) = crashes w id (live_at w id)
stepped w (event.Store id value) = acts w (event.Store id value) id (acted w.sent (act.Store value))
stepped w (event.Collect id) = acts w (event.Collect id) id (acted w.sent act.Collect)
stepped w (event.Deliver number id) = acts w (event.Deliver number id) id (acted w.sent (act.Deliver number))

-- one world leads to another by accepted events
abbrev pub Reaches : WorldState → List WorldEvent → WorldState → Type 0
Reaches w [] w' = w' ≡ w
Reaches w (e ∷ es) w' = (a : WorldStep) × (u : WorldState) × (stepped w e ≡ Ok (a, u)) × Reaches u es w'

-- these nodes, and the founders of these ids
abbrev pub nodes_with : Config → List ℕ → fin.FinMap nat_cmp NodeState → List ℕ → fin.FinMap nat_cmp NodeState
nodes_with c ids nodes [] = nodes
nodes_with c ids nodes (id ∷ rest) = nodes_with c ids (fin.insert nodes id (founder c ids id)) rest

abbrev pub founder_nodes : Config → List ℕ → fin.FinMap nat_cmp NodeState
founder_nodes c ids = nodes_with c ids fin.empty ids

-- the world of the founders, before any event
abbrev pub start : Config → List ℕ → WorldState
start c ids = record { config = c; founders = ids; nodes = founder_nodes c ids; crashed = set.empty; events = []; sent = []; ops = [] }

abbrev pub founded_nodes : Config → List ℕ → Result (fin.FinMap nat_cmp NodeState) Reason
founded_nodes c ids = if are_founders ids then Ok (founder_nodes c ids) else Err reasons.BadFounders

abbrev pub started : Config → List ℕ → Result WorldState Reason
started c ids = if are_founders ids then Ok (start c ids) else Err reasons.BadFounders

-- the world is what its events made of its founders
abbrev pub IsHistory : WorldState → Type 0
IsHistory w = Reaches (start w.config w.founders) w.events w

-- it was this world when so many events had been accepted
abbrev pub WasBefore : WorldState → ℕ → WorldState → Type 0
WasBefore w place u = Reaches (start w.config w.founders) (take place w.events) u
