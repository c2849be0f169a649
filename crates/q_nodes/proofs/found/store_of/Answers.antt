-- store_of: the store of these bytes by the node under this tag.
use Rattle.std.proofs.Common.{◌≡◌, List, subst}
use Rattle.sc_world.specs.Records.{Among}
use Rattle.sc_world.specs.declared.op.Op.{Op}
use Rattle.q_nodes.specs.Found.{IsOnly}
use Rattle.q_nodes.proofs.Finding.{no_store, other_store}
use Rattle.q_nodes.proofs.found.store_of.Goals as goal

pub returns-in_default : goal.returns-in_default
returns-in_default c =
    no_store c.args.cluster.now c.args.node c.args.tag c.args.bytes.now
    (subst (λ (ops : List Op). (o : Op) → Among o ops → o.node ≡ c.args.node → o.tag ≡ c.args.tag → ⊥) c.ops.ensures.ops c.in_default.ensures)

pub returns-else-stores : goal.returns-else-stores
returns-else-stores c =
    other_store c.args.cluster.now c.args.node c.args.tag c.args.bytes.now c.in-Some.op.now
    (subst (λ (ops : List Op). IsOnly ops c.args.node c.args.tag c.in-Some.op.now) c.ops.ensures.ops c.in-Some.ensures) c.if-stores.ensures
