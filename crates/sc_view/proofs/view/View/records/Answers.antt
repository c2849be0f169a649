-- View::records: the entries in rising id order, each with its id.
use Rattle.std.proofs.Common.{◌≤◌, sym, ap, subst, ◌∙◌}
use Rattle.std.specs.FinMap as fin
use Rattle.sc_view.specs.Rows.{joined}
use Rattle.sc_view.specs.Views.{ViewMap, most_entries}
use Rattle.sc_view.proofs.MapLemmas.{entries_rising, len_rising}
use Rattle.sc_view.proofs.view.View.records.Goals as goal

pub returns-clause-all : goal.returns-clause-all
returns-clause-all c =
    ap joined c.as_slice.ensures.value ∙ sym (entries_rising _ c.self.invariant.row.rises) ∙ ap (λ (m : ViewMap). fin.entries m) c.self.view_is

pub returns-clause-few : goal.returns-clause-few
returns-clause-few c = rw c.as_slice.ensures.value (subst (λ n. n ≤ most_entries) (len_rising _ c.self.invariant.row.rises) c.self.invariant.valid.few)
