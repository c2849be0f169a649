-- SortedView::len_with_all: how many ids the two views have together.
use Rattle.std.proofs.Common.{◌≡◌, sym, ap, subst, ◌∙◌, arith}
use Rattle.std.specs.FinMap as fin
use Rattle.sc_view.specs.Views.{ViewMap, IsView}
use Rattle.forms.proofs.Maps.{len_found}
use Rattle.sc_view.proofs.ViewLemmas.{lacks_found, few_new, len-merge}
use Rattle.sc_view.proofs.sorted.SortedView.len_with_all.Goals as goal

pub overflow_add-result : goal.overflow_add-result
overflow_add-result c =
    let len : c.len.result ≡ fin.len c.args.self.now =
    c.len.ensures.len ∙ sym (len_found _ c.len.ensures.ordered) ∙ ap (λ (m : ViewMap). fin.len m) c.self.view_is in
    let new = c.count_new.ensures.count ∙ lacks_found _ _ _ _ c.self.view_is c.other.view_is c.count_new.ensures.ordered in
    let valid : IsView c.args.self.now = subst IsView c.self.view_is c.self.invariant in
    omega (arith, len, valid.few, new, few_new c.args.self.now c.args.other.now (subst IsView c.other.view_is c.other.invariant))

pub returns-clause-count : goal.returns-clause-count
returns-clause-count c =
    let len : c.len.result ≡ fin.len c.args.self.now =
    c.len.ensures.len ∙ sym (len_found _ c.len.ensures.ordered) ∙ ap (λ (m : ViewMap). fin.len m) c.self.view_is in
    let new = c.count_new.ensures.count ∙ lacks_found _ _ _ _ c.self.view_is c.other.view_is c.count_new.ensures.ordered in
    omega (arith, len, new, len-merge c.args.self.now c.args.other.now)
