-- Own::look: looks whether the journal's file is still as the node left it.
use Rattle.q_node.proofs.Owned.{own_looked}
use Rattle.q_node.proofs.own.Own.look.Goals as goal

pub invariant_of-self : goal.invariant_of-self
invariant_of-self g c = own_looked _ _ _ _ _ _ c.look.ensures.looked (c.look.ensures.recorded _ _) c.self.invariant
