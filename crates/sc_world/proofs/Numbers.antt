-- Each node numbers its stores, and no number twice.
use Rattle.std.proofs.Common.{◌≡◌, ◌≤◌, Some}
use Rattle.std.specs.FinMap as fin
use Rattle.sc_view.specs.declared.view.Stored.{Stored}
use Rattle.sc_operations.specs.declared.session.OperationKind.TheVariants as kind
use Rattle.sc_node.specs.Sessions.{kind_of}
use Rattle.sc_node.specs.State.{NodeState}
use Rattle.sc_world.specs.declared.op.Op.{Op}
use Rattle.sc_world.specs.State.{WorldState}
use Rattle.sc_world.specs.Records.{Among}

pub record IsNumbered (w : WorldState) : Type 0 where
  pub counted : (o : Op) → Among o w.ops → (e : Stored) → kind_of o.session ≡ kind.Store e → (n : NodeState) → fin.get w.nodes o.node ≡ Some n
      → e.number ≤ n.stores
  pub positive : (o : Op) → Among o w.ops → (e : Stored) → kind_of o.session ≡ kind.Store e → 1 ≤ e.number
  pub one : (o o' : Op) → Among o w.ops → Among o' w.ops → (e e' : Stored) → kind_of o.session ≡ kind.Store e → kind_of o'.session ≡ kind.Store e'
      → o.node ≡ o'.node → e.number ≡ e'.number → e ≡ e'
