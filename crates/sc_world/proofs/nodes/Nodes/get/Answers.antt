-- Nodes::get: the node of this id.
use Rattle.std.proofs.Common.{◌∙◌}
use Rattle.sc_world.proofs.Tables.{get_of}
use Rattle.sc_world.proofs.nodes.Nodes.get.Goals as goal

pub returns : goal.returns
returns c = c.get.ensures.value ∙ get_of c.args.self.now c.args.id c.self.inside.entries.entries c.self.view_is
