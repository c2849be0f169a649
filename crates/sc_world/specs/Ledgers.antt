-- What a ledger records.
use Rattle.std.specs.Prelude.{◌≡◌, ◌&&◌, ℕ, Bool, nat_lt, nat_le, ◌+◌, List, [], ◌∷◌, ◌++◌, map, length, Option}
use Rattle.std.specs.FinSet as set
use Rattle.sc_members.specs.Members.{Config}
use Rattle.sc_msg.specs.declared.message.Message.{Message}
use Rattle.sc_operations.specs.declared.progress.Progress.{Progress}
use Rattle.sc_world.specs.declared.act.BegunOp.{BegunOp}
use Rattle.sc_world.specs.declared.counting.Counting.{Counting}
use Rattle.sc_world.specs.declared.event.WorldEvent.{WorldEvent}
use Rattle.sc_world.specs.declared.event.WorldEvent.TheVariants as event
use Rattle.sc_world.specs.declared.event.Sent.{Sent}
use Rattle.sc_world.specs.declared.op.Op.{Op}
use Rattle.sc_world.specs.State.{Past}
use Rattle.sc_world.specs.Worlds.{advanced, op_begun}
use Rattle.sc_world.specs.Acts.{Fits, moved_at}

-- the past of these founders, before any event
abbrev pub first : Config → List ℕ → Past
first config ids = record { config = config; founders = ids; crashed = set.empty; events = []; sent = []; ops = [] }

-- after an event at which this node sends, and may move or begin an operation
abbrev pub recorded : Past → WorldEvent → ℕ → List Message → Option Progress → Option BegunOp → Past
recorded p e node outs progress begun =
    record {
      config = p.config;
      founders = p.founders;
      crashed = p.crashed;
      events = p.events ++ e ∷ [];
      sent = p.sent ++ outs;
      ops = map (advanced node (length p.events) progress) p.ops ++ op_begun node (length p.events) begun;
    }

-- the numbers of the messages that are sent next
abbrev pub numbered : Past → List Message → Sent
numbered p outs = record { first = length p.sent; count = length outs }

-- after a node stopped
abbrev pub stopped : Past → ℕ → Past
stopped p id =
    record {
      config = p.config;
      founders = p.founders;
      crashed = set.insert p.crashed id;
      events = p.events ++ event.Crash id ∷ [];
      sent = p.sent;
      ops = p.ops;
    }

-- there is room for one event, two messages and one operation
abbrev pub has_room : ℕ → ℕ → ℕ → ℕ → ℕ → ℕ → Bool
has_room events events_cap sent sent_cap ops ops_cap = nat_lt events events_cap && (nat_le (sent + 2) sent_cap && nat_lt ops ops_cap)

-- What was made ready is what this progress of a node at a place wants: the record that was found moves, and no other.
pub record IsRight (ops : List Op) (id place : ℕ) (p : Option Progress) (c : Option Counting) : Type 0 where
  pub fits : Fits ops p c
  pub moves : moved_at ops place p c ≡ map (advanced id place p) ops
