-- View::get: what is known of the node.
use Rattle.std.proofs.Common.{sym, subst, ap, ◌∙◌}
use Rattle.std.specs.Ordering.{nat_cmp}
use Rattle.std.specs.FinMap as fin
use Rattle.std.specs.FinMap.Entries.{find}
use Rattle.sc_view.specs.Views.{ViewMap, IsView}
use Rattle.sc_view.specs.Rows.{Rises}
use Rattle.sc_view.proofs.MapLemmas.{get_rising}
use Rattle.sc_view.proofs.RowLemmas.{rises_in, find_in}
use Rattle.sc_view.proofs.ViewLemmas.{counted_at}
use Rattle.sc_view.proofs.view.View.get.Goals as goal

pub find-requires : goal.find-requires
find-requires c =
    subst Rises (sym c.as_slice.ensures)
    (rises_in _ _ c.place.result _ c.as_slice-chunks.ensures.value c.place.ensures.within c.index-chunks-place.is c.self.invariant.row.rises)

returns_value : goal.returns-clause-value
returns_value c =
    let found = find_in c.self.inside.row.items _ c.place.result _ c.as_slice-chunks.ensures.value c.place.ensures.within c.index-chunks-place.is in
    c.find.ensures ∙ ap (find nat_cmp c.args.id) c.as_slice.ensures ∙ found c.args.id c.place.ensures.under c.place.ensures.over
    ∙ sym (get_rising _ c.args.id) ∙ ap (λ (m : ViewMap). fin.get m c.args.id) c.self.view_is

pub returns-clause-value : goal.returns-clause-value
returns-clause-value c = returns_value c

pub returns-clause-counted : goal.returns-clause-counted
returns-clause-counted c = counted_at c.args.self.now c.args.id _ (subst IsView c.self.view_is c.self.invariant.valid) (returns_value c)
