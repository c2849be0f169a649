-- What contracts see of a book.
use Rattle.std.specs.Prelude.{ℕ, List, Option}
use Rattle.sc_members.specs.Members.{Config}
use Rattle.sc_msg.specs.declared.version.Version.{Version}
use Rattle.sc_node.specs.State.{NodeState}
use Rattle.q_desk.specs.State.{DeskState}

pub record BookState : Type 0 where
  pub version : Version  -- of its journal, and of the messages that it takes
  pub id : ℕ  -- of the node
  pub config : Config
  pub founders : Option (List ℕ)  -- all of them, where the node is one; none where it entered
  pub node : NodeState
  pub desk : DeskState
