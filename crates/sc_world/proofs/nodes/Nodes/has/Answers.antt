-- Nodes::has: some node has this id, or had it.
use Rattle.std.proofs.Common.{ap, ◌∙◌, Option, is_some}
use Rattle.sc_node.specs.State.{NodeState}
use Rattle.sc_world.proofs.Tables.{get_of, is_some-copied}
use Rattle.sc_world.proofs.nodes.Nodes.has.Goals as goal

pub returns : goal.returns
returns c =
    c.is_some.ensures ∙ is_some-copied c.get.result
    ∙ ap (λ (o : Option NodeState). is_some o) (c.get.ensures.value ∙ get_of c.args.self.now c.args.id c.self.inside.entries.entries c.self.view_is)
