-- SortedView::value: the entry of a node.
use Rattle.std.proofs.Common.{sym, ap, ◌∙◌}
use Rattle.std.specs.FinMap as fin
use Rattle.sc_view.specs.Views.{ViewMap}
use Rattle.forms.proofs.Maps.{get_found}
use Rattle.sc_view.proofs.sorted.SortedViewViewForm.value.Goals as goal

pub returns : goal.returns
returns c =
    c.copied.ensures ∙ c.get.ensures.value ∙ sym (get_found c.self.inside.entries.entries c.args.id)
    ∙ ap (λ (m : ViewMap). fin.get m c.args.id) c.self.view_is
