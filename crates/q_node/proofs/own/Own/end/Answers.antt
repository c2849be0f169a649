-- Own::end: writes what the file lacks still, and ends the node.
use Rattle.std.proofs.Common.{◌∙◌, ap, subst, sym}
use Rattle.q_book.specs.Replays.{IsBookOf}
use Rattle.q_node.specs.State.{OwnState}
use Rattle.q_node.proofs.Told.{finishes_at}
use Rattle.q_node.proofs.own.Own.end.Goals as goal

pub returns-clause-kept : goal.returns-clause-kept
returns-clause-kept g c =
    let b = c.book-book.ensures in
    c.record_all.ensures.kept _ _ (subst (IsBookOf g.S.Start.id) (b.same ∙ sym (ap (λ (o : OwnState). o.book) c.self.view_is)) b.own) c.self.invariant

pub returns-clause-finished : goal.returns-clause-finished
returns-clause-finished g c =
    finishes_at _ _ _ _ c.record_all.result _ (ap (λ (o : OwnState). o.recorder) c.self.view_is) (ap (λ (o : OwnState). o.book) c.self.view_is)
    c.record_all.ensures.finished
