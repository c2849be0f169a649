-- What stands at the head of a journal.
use Rattle.std.specs.Prelude.{ℕ, List, Option}
use Rattle.sc_members.specs.Members.{Config}
use Rattle.sc_msg.specs.declared.version.Version.{Version}

-- The fractions may be any numbers of two bytes, and the founders any ids: whether they are taken is not looked at.
pub record Head : Type 0 where
  pub version : Version  -- of the journal, and of the messages in it
  pub id : ℕ  -- of the node
  pub config : Config
  pub founders : Option (List ℕ)  -- all of them, where the node is one; none where it entered
