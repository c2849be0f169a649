-- Nodes::insert: at Err the nodes are as they were.
use Rattle.std.proofs.Common.{ap, ◌∙◌}
use Rattle.std.specs.Ordering.{nat_cmp}
use Rattle.std.specs.FinMap as fin
use Rattle.forms.proofs.Maps.{one_written}
use Rattle.sc_node.specs.State.{NodeState}
use Rattle.sc_world.proofs.nodes.Nodes.insert.Goals as goal

pub returns-clause-ok : goal.returns-clause-ok
returns-clause-ok c =
    one_written c.self.inside.entries.entries c.insert.new.self.entries c.args.id c.args.node c.in_ok-insert.ensures.updates.0
    ∙ ap (λ (m : fin.FinMap nat_cmp NodeState). fin.insert m c.args.id c.args.node) c.self.view_is
