-- View::len: how many nodes the view has a value of.
use Rattle.std.proofs.Common.{sym, ap, ◌∙◌}
use Rattle.std.specs.FinMap as fin
use Rattle.sc_view.specs.Views.{ViewMap}
use Rattle.sc_view.proofs.MapLemmas.{len_rising}
use Rattle.sc_view.proofs.view.View.len.Goals as goal

pub returns-clause-count : goal.returns-clause-count
returns-clause-count c = c.self.invariant.counted ∙ sym (len_rising _ c.self.invariant.row.rises) ∙ ap (λ (m : ViewMap). fin.len m) c.self.view_is
