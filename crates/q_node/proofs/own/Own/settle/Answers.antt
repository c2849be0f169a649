-- Own::settle: pumps and writes the journal: what is to be sent, or none where it is not written.
use Rattle.q_node.proofs.Settled.{settles_at}
use Rattle.q_node.proofs.own.Own.settle.Goals as goal

pub invariant_of-self : goal.invariant_of-self
invariant_of-self g c = c.settle_kept.ensures.own _ _ c.self.invariant

pub returns : goal.returns
returns g c = settles_at _ _ _ _ c.self.view_is c.settle_kept.ensures.settled
