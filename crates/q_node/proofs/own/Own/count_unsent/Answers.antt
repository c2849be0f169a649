-- Own::count_unsent: counts what was not sent.
use Rattle.std.proofs.Common.{refl}
use Rattle.q_node.specs.State.{state_of}
use Rattle.q_node.proofs.Owned.{own_same}
use Rattle.q_node.proofs.Settled.{counts, counts_at}
use Rattle.q_node.proofs.own.Own.count_unsent.Goals as goal

pub invariant_of-self : goal.invariant_of-self
invariant_of-self g c = own_same _ _ _ _ _ _ c.count_unsent.ensures.book refl c.self.invariant

pub returns : goal.returns
returns g c =
    let k = c.count_unsent.ensures in let h = c.count_unsent.new.self in
    counts_at (state_of c.self.inside.kept) c.args.self.now _ c.args.unsent c.self.view_is
    (counts (state_of c.self.inside.kept) h.book h.waiting.items h.lost h.unsent c.args.unsent h.asker k.book k.waiting k.lost k.counted k.asker)
