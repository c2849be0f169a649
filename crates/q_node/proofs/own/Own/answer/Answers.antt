-- Own::answer: does what a request asks, and settles.
use Rattle.std.proofs.Common.{subst}
use Rattle.q_book.specs.Replays.{IsBookOf}
use Rattle.q_node.proofs.Settled.{replies_at}
use Rattle.q_node.proofs.own.Own.answer.Goals as goal

pub invariant_of-self : goal.invariant_of-self
invariant_of-self g c = c.answer_kept.ensures.own _ _ c.self.invariant

pub returns-clause-said : goal.returns-clause-said
returns-clause-said g c =
    let b = c.book-book.ensures in
    let k = replies_at c.args.request.now c.answer_kept.result.said _ _ c.self.view_is c.answer_kept.ensures.replied in
    (c.args.self.now.book, k.book, k.happened.0, subst (IsBookOf g.S.Start.id) b.same b.own, k.happened.1)

pub returns-clause-replied : goal.returns-clause-replied
returns-clause-replied g c = replies_at c.args.request.now c.answer_kept.result.said _ _ c.self.view_is c.answer_kept.ensures.replied
