-- Nodes::act: the node of this id acts, if it is there and did not crash.
use Rattle.std.proofs.Common.{Option, IsSome, refl, subst}
use Rattle.sc_node.specs.State.{NodeState}
use Rattle.sc_world.specs.Worlds.{acted}
use Rattle.sc_world.proofs.Tables.{acts_at, no_node}
use Rattle.sc_world.proofs.nodes.Nodes.act.Goals as goal

pub returns-in_default : goal.returns-in_default
returns-in_default c =
    let does = acted c.args.sent.now c.args.act.now in
    let none = no_node c.args.self.now c.args.id c.args.crashed does c.self.inside.entries.entries c.self.view_is c.in_default.ensures.value in
    rw c.get_mut.follows.holds-at-none (c.self.view_is, λ _. none)

pub returns : goal.returns
returns c =
    acts_at c.self.inside.entries.entries (c.get_mut.follows.lender c.perform.new.node).entries c.args.self.now c.args.id c.args.crashed
    (acted c.args.sent.now c.args.act.now) c.in-Some.node.now
    c.self.view_is c.in-Some.ensures.value c.if-not-is_live.ensures c.perform.new.node c.perform.result c.perform.ensures
    ((c.get_mut.follows.holds c.perform.new.node).3 (subst (λ (o : Option NodeState). IsSome o) c.in-Some.ensures.value refl)).0
