-- SortedView::len_with: how many ids the view has once it has this one.
use Rattle.std.proofs.Common.{◌≡◌, sym, ap, ◌∙◌, arith}
use Rattle.std.specs.FinMap as fin
use Rattle.sc_view.specs.Views.{ViewMap}
use Rattle.forms.proofs.Maps.{len_found}
use Rattle.sc_view.proofs.ViewLemmas.{len-put}
use Rattle.sc_view.proofs.sorted.SortedView.len_with.Goals as goal

pub returns-clause-count : goal.returns-clause-count
returns-clause-count c = λ stored.
    let len : c.len.result ≡ fin.len c.args.self.now =
    c.len.ensures.len ∙ sym (len_found _ c.len.ensures.ordered) ∙ ap (λ (m : ViewMap). fin.len m) c.self.view_is in
    grind (arith, len, c.value.ensures, c.is_none.ensures, c.from.ensures, len-put c.args.self.now c.args.id stored)
