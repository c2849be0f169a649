-- Own::leave: leaves the cluster for good, and settles.
use Rattle.std.proofs.Common.{subst}
use Rattle.q_book.specs.Replays.{IsBookOf}
use Rattle.q_node.proofs.Settled.{leaves_at}
use Rattle.q_node.proofs.Told.{says_left}
use Rattle.q_node.proofs.own.Own.leave.Goals as goal

pub invariant_of-self : goal.invariant_of-self
invariant_of-self g c = c.leave_kept.ensures.own _ _ c.self.invariant

pub returns-clause-said : goal.returns-clause-said
returns-clause-said g c =
    let b = c.book-book.ensures in
    says_left _ _ _ _ _ (subst (IsBookOf g.S.Start.id) b.same b.own) (leaves_at _ _ _ _ _ c.self.view_is c.leave_kept.ensures.left)

pub returns-clause-left : goal.returns-clause-left
returns-clause-left g c = leaves_at _ _ _ _ _ c.self.view_is c.leave_kept.ensures.left
