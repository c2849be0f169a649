-- What contracts see of a node.
use Rattle.std.specs.Prelude.{ℕ, Bool, Option}
use Rattle.std.specs.Ordering.{nat_cmp}
use Rattle.std.specs.FinMap as fin
use Rattle.sc_view.specs.Views.{ViewMap}
use Rattle.sc_members.specs.Ids.{Ids}
use Rattle.sc_members.specs.Members.{Facts, Config}
use Rattle.sc_operations.specs.declared.session.Session.{Session}

pub record NodeState : Type 0 where
  pub id : ℕ
  pub config : Config
  pub facts : Facts
  pub view : ViewMap
  pub joined : Bool
  pub gone : Bool  -- it has left
  pub join_threshold : Option ℕ  -- how many echoes it waits for before it joins, once a joined node answered
  pub echoes : Ids  -- whose echoes it counted
  pub sessions : fin.FinMap nat_cmp Session  -- the open operations, by their tags
  pub stores : ℕ  -- how many stores it has begun
  pub operations : ℕ  -- how many operations it has begun
