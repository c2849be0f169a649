-- SortedView::join: merges another view into this one.
use Rattle.std.proofs.Common.{sym, subst, arith}
use Rattle.sc_view.specs.Views.{IsView}
use Rattle.sc_view.proofs.ViewLemmas.{merge_valid}
use Rattle.sc_view.proofs.sorted.SortedViewViewForm.join.Goals as goal

pub returns-clause-ok : goal.returns-clause-ok
returns-clause-ok c =
    cc (c.in_ok-entries.ensures, c.in_ok-learn_all.ensures, c.self.view_is, c.other.view_is)

pub invariant_of-self : goal.invariant_of-self
invariant_of-self c =
    subst IsView (sym (returns-clause-ok c))
    (merge_valid c.args.self.now c.args.other.now c.len_with_all.ensures.valid c.len_with_all.ensures.other_valid
    (omega (arith, c.len_with_all.ensures.count, c.if-len_with_all-gt-MOST_ENTRIES.false)))
