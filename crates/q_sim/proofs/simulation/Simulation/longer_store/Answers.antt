-- Simulation::longer_store: why the cluster refuses to store more bytes than a value has at this node.
use Rattle.std.proofs.Common.{sym, ap, ◌∙◌}
use Rattle.sc_node.specs.State.{NodeState}
use Rattle.q_sim.proofs.Storing.{at_no_book, at_no_node, before_it_joined, at_all}
use Rattle.q_sim.proofs.simulation.Simulation.longer_store.Goals as goal

pub returns-in_default : goal.returns-in_default
returns-in_default c = at_no_book c.args.self.now.cluster c.args.node c.in_default.ensures

pub returns-then-not-is_live : goal.returns-then-not-is_live
returns-then-not-is_live c = at_no_node c.args.self.now.cluster c.args.node (sym c.is_live.ensures ∙ c.if-not-is_live.true)

pub returns-then-not-has_joined : goal.returns-then-not-has_joined
returns-then-not-has_joined c =
    before_it_joined c.args.self.now.cluster c.args.node c.in-Some.book.now c.in-Some.ensures (sym c.is_live.ensures ∙ c.if-not-is_live.false)
    (ap (λ (n : NodeState). n.joined) (sym c.node.ensures) ∙ sym c.has_joined.ensures ∙ c.if-not-has_joined.true)

pub returns : goal.returns
returns c =
    at_all c.args.self.now.cluster c.args.node c.in-Some.book.now c.in-Some.ensures (sym c.is_live.ensures ∙ c.if-not-is_live.false)
    (ap (λ (n : NodeState). n.joined) (sym c.node.ensures) ∙ sym c.has_joined.ensures ∙ c.if-not-has_joined.false)
