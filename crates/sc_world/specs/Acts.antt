-- What the parts of a world do at an event of a node.
use Rattle.std.specs.Prelude.{◌≡◌, ◌≢◌, ℕ, Bool, IsTrue, ◌==◌, ◌&&◌, List, Option, Some, None, Result, Ok, Err, if◌then◌else◌, slice_get, slice_set, position}
use Rattle.std.specs.Ordering.{nat_cmp}
use Rattle.std.specs.FinMap as fin
use Rattle.std.specs.FinSet as set
use Rattle.sc_members.specs.Ids.{Ids}
use Rattle.sc_msg.specs.declared.message.Message.{Message}
use Rattle.sc_msg.specs.declared.message.Body.{Body}
use Rattle.sc_msg.specs.declared.message.Body.TheVariants.{StoreAck, CollectReply}
use Rattle.sc_operations.specs.declared.session.Session.{Session}
use Rattle.sc_operations.specs.declared.progress.Progress.{Progress}
use Rattle.reasons.specs.declared.Reason.TheVariants.{OutOfMemory as memory}
use Rattle.sc_node.specs.Sessions.{open_phase}
use Rattle.sc_node.specs.State.{NodeState}
use Rattle.sc_world.specs.declared.act.Act.{Act}
use Rattle.sc_world.specs.declared.act.Act.TheVariants as act
use Rattle.sc_world.specs.declared.act.Report.{Report}
use Rattle.sc_world.specs.declared.counting.Counting.{Counting}
use Rattle.reasons.specs.declared.Reason.{Reason}
use Rattle.sc_world.specs.declared.act.BegunOp.{BegunOp}
use Rattle.sc_world.specs.declared.op.Op.{Op}
use Rattle.sc_world.specs.declared.op_change.OpChange.{OpChange}
use Rattle.sc_world.specs.declared.op_change.OpChange.TheVariants.{Begins, Moves}
use Rattle.sc_world.specs.Worlds.{Outcome, moved}

-- what moves an operation, if one moves
abbrev pub progress_in : OpChange → Option Progress
progress_in (Moves p) = Some p
progress_in c = None

-- the operation that begins, if one does
abbrev pub begun_in : OpChange → Option BegunOp
begun_in (Begins b) = Some b
begun_in c = None

-- what a node tells, and the node as it then is
abbrev pub outcome : Report → NodeState → Outcome
outcome r n = record { node = n; outs = r.outs; progress = progress_in r.change; begun = begun_in r.change; ended = r.ended }

-- a node does what is said, or refuses
abbrev pub Acts : Result Outcome Reason → NodeState → NodeState → Result Report Reason → Type 0
Acts said old new (Ok r) = said ≡ Ok (outcome r new)
Acts said old new (Err e) = (new ≡ old) × (e ≢ memory → said ≡ Err e)

-- the node of that id does what is said, or it is refused
abbrev pub ActsAt : Result Outcome Reason → fin.FinMap nat_cmp NodeState → fin.FinMap nat_cmp NodeState → ℕ → Result Report Reason → Type 0
ActsAt said old new id (Ok r) = (n : NodeState) × (said ≡ Ok (outcome r n)) × (new ≡ fin.insert old id n)
ActsAt said old new id (Err e) = (new ≡ old) × (e ≢ memory → said ≡ Err e)

-- the tag of the operation of this node that a message answers, and who answers
abbrev pub answered : ℕ → ℕ → Body → Option (ℕ × ℕ)
answered node from (StoreAck a) = if a.to == node then Some (a.tag, from) else None
answered node from (CollectReply r) = if r.to == node then Some (r.tag, from) else None
answered node from b = None

abbrev pub answered_by : ℕ → Option Message → Option (ℕ × ℕ)
answered_by node None = None
answered_by node (Some m) = answered node m.from m.body

-- what an act of this node answers
abbrev pub answered_at : ℕ → List Message → Act → Option (ℕ × ℕ)
answered_at node sent (act.Deliver number) = answered_by node (slice_get sent number)
answered_at node sent a = None

abbrev pub is_op : ℕ → ℕ → Op → Bool
is_op node tag o = o.node == node && o.tag == tag

-- the senders that an operation counts in the phase that is open, and one more
abbrev pub counted_with : Session → ℕ → Ids
counted_with s from = set.insert (open_phase s).counted from

-- the place of the record that an answer may move is found, and the set of its senders is ready
abbrev pub IsReady : List Op → ℕ → Option (ℕ × ℕ) → Option Counting → Type 0
IsReady ops node None c = Unit {0}
IsReady ops node (Some a) None = position (is_op node a.0) ops ≡ None
IsReady ops node (Some a) (Some c) = (o : Op) × IsTrue (is_op node a.0 o) × (slice_get ops c.at ≡ Some o) × (c.counted ≡ counted_with o.session a.1)

-- the set is that of the record, with the sender
abbrev pub Fits : List Op → Option Progress → Option Counting → Type 0
Fits ops (Some p) (Some c) = (o : Op) × (slice_get ops c.at ≡ Some o) × (c.counted ≡ counted_with o.session p.sender)
Fits ops (Some p) None = Unit {0}
Fits ops None c = Unit {0}

abbrev pub put_moved : List Op → ℕ → ℕ → Progress → Option Op → List Op
put_moved ops at place p None = ops
put_moved ops at place p (Some o) = slice_set ops at (moved place p o)

-- the records, where the one that was found moves
abbrev pub moved_at : List Op → ℕ → Option Progress → Option Counting → List Op
moved_at ops place (Some p) (Some c) = put_moved ops c.at place p (slice_get ops c.at)
moved_at ops place (Some p) None = ops
moved_at ops place None c = ops
