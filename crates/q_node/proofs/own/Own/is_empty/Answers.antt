-- Own::is_empty: whether no message waits.
use Rattle.std.proofs.Common.{◌∙◌, ◌==◌, ℕ, length, ap}
use Rattle.sc_msg.specs.declared.message.Message.{Message}
use Rattle.q_node.specs.State.{OwnState}
use Rattle.q_node.proofs.own.Own.is_empty.Goals as goal

pub returns : goal.returns
returns g c =
    c.is_empty.ensures ∙ ap (λ (n : ℕ). n == 0) c.self.inside.kept.held.waiting.ok.0 ∙ ap (λ (o : OwnState). length {A = Message} o.waiting == 0) c.self.view_is
