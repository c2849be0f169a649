-- Own::again: what goes again at this look, to these nodes.
use Rattle.q_node.specs.State.{state_of}
use Rattle.q_node.proofs.AsksAgain.{AsksAgain, asks_at, same_but}
use Rattle.q_node.proofs.Owned.{own_same}
use Rattle.q_node.proofs.own.Own.again.Goals as goal

pub invariant_of-self : goal.invariant_of-self
invariant_of-self g c =
    let k = c.again.ensures in own_same _ _ _ _ _ _ (λ i. (k.held i).book) k.recorder c.self.invariant

pub returns : goal.returns
returns g c =
    let k = c.again.ensures in
    let asked : AsksAgain c.args.self.now c.args.nodes.now c.again.result.items (state_of c.again.new.self) =
    asks_at (state_of c.self.inside.kept) c.args.self.now c.args.nodes.now c.again.result.items (state_of c.again.new.self) c.self.view_is
    (record { each = k.each; all = k.all; questions = k.questions; mute = k.mute; same = same_but c.self.inside.kept c.again.new.self k.held k.recorder }) in
    record { each = asked.each; all = asked.all; questions = asked.questions; mute = asked.mute; same = asked.same }
