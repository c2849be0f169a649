-- Delivered::contains: whether this message was delivered to this node.
use Rattle.std.proofs.Common.{sym, ap, ◌∙◌}
use Rattle.std.specs.FinSet as set
use Rattle.q_sim.specs.Delivered.{Deliveries}
use Rattle.q_sim.proofs.Pairs.{found}
use Rattle.q_sim.proofs.delivered.Delivered.contains.Goals as goal

pub returns : goal.returns
returns c =
    c.contains.ensures ∙ sym (found c.self.inside.pairs.keys (c.args.message, c.args.node))
    ∙ ap (λ (s : Deliveries). set.contains s (c.args.message, c.args.node)) c.self.view_is
