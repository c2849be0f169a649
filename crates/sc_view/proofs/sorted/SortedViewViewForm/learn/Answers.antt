-- SortedView::learn: learns an entry: the larger number wins.
use Rattle.std.proofs.Common.{sym, ap, subst, ◌∙◌, arith, ◌≤◌}
use Rattle.sc_view.specs.Views.{ViewMap, IsView, put}
use Rattle.sc_view.proofs.ViewLemmas.{put_valid}
use Rattle.sc_view.proofs.sorted.SortedViewViewForm.learn.Goals as goal

pub invariant_of-self-2 : goal.invariant_of-self-2
invariant_of-self-2 c =
    let counted = subst (λ n. 1 ≤ n) c.number.ensures.number c.number.ensures.counted in
    subst IsView (sym (c.in_ok-learn.ensures.ok ∙ ap (λ (v : ViewMap). put v c.args.id c.args.stored) c.self.view_is))
    (put_valid c.args.self.now c.args.id c.args.stored c.len_with.ensures.valid counted c.number.ensures.short
    (omega (arith, c.len_with.ensures.count c.args.stored, c.if-len_with-gt-MOST_ENTRIES.false)))
