-- Own::hear: takes a message's bytes, and settles.
use Rattle.q_node.proofs.Settled.{hears_at}
use Rattle.q_node.proofs.own.Own.hear.Goals as goal

pub invariant_of-self : goal.invariant_of-self
invariant_of-self g c = c.hear_kept.ensures.own _ _ c.self.invariant

pub returns : goal.returns
returns g c = hears_at _ _ _ _ _ _ c.self.view_is c.hear_kept.ensures.heard
