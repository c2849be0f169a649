-- What contracts see of a world and of its ledger.
use Rattle.std.specs.Prelude.{ℕ, Bool, List}
use Rattle.std.specs.Ordering.{nat_cmp}
use Rattle.std.specs.FinMap as fin
use Rattle.sc_members.specs.Ids.{Ids}
use Rattle.sc_members.specs.Members.{Config}
use Rattle.sc_msg.specs.declared.message.Message.{Message}
use Rattle.sc_node.specs.State.{NodeState}
use Rattle.sc_world.specs.declared.event.WorldEvent.{WorldEvent}
use Rattle.sc_world.specs.declared.op.Op.{Op}

pub record WorldState : Type 0 where
  pub config : Config
  pub founders : List ℕ
  pub nodes : fin.FinMap nat_cmp NodeState  -- all that were ever there, by their ids
  pub crashed : Ids
  pub events : List WorldEvent  -- those that were accepted
  pub sent : List Message  -- every message that was ever sent, by its number
  pub ops : List Op  -- a record of each operation, in the order in which they began

-- what a world keeps beside its nodes
pub record Past : Type 0 where
  pub config : Config
  pub founders : List ℕ
  pub crashed : Ids
  pub events : List WorldEvent
  pub sent : List Message
  pub ops : List Op

pub record LedgerState : Type 0 where
  pub past : Past
  pub room : Bool  -- what one node does can be recorded without memory

-- a world is its nodes and its past
abbrev pub world_of : fin.FinMap nat_cmp NodeState → Past → WorldState
world_of nodes p =
    record { config = p.config; founders = p.founders; nodes = nodes; crashed = p.crashed; events = p.events; sent = p.sent; ops = p.ops }

abbrev pub past_of : WorldState → Past
past_of w = record { config = w.config; founders = w.founders; crashed = w.crashed; events = w.events; sent = w.sent; ops = w.ops }
