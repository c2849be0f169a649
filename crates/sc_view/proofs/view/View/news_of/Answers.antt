-- View::news_of: what the other view tells beyond this one.
use Rattle.std.proofs.Common.{◌≡◌, ap, sym, ◌∙◌, arith}
use Rattle.std.specs.FinMap as fin
use Rattle.sc_view.specs.Rows.{joined, count_lacking, count_newer}
use Rattle.sc_view.specs.Views.{ViewMap}
use Rattle.sc_view.proofs.MapLemmas.{merged_count, merge_none, below_none, len_rising, lacking_few}
use Rattle.sc_view.proofs.view.View.news_of.Goals as goal

pub what_is_new-requires-clause-few : goal.what_is_new-requires-clause-few
what_is_new-requires-clause-few c =
    rw c.as_slice-2.ensures.value (omega (arith, len_rising (joined c.other.inside.row.items) c.other.invariant.row.rises, c.other.invariant.valid.few))

module _ (c : goal.After-what_is_new) where
  ids : c.what_is_new.result.ids ≡ count_lacking (joined c.self.inside.row.items) (joined c.other.inside.row.items)
  ids = c.what_is_new.ensures.ids ∙ (λ i. count_lacking (joined (c.as_slice.ensures.value i)) (joined (c.as_slice-2.ensures.value i)))

  values : c.what_is_new.result.values ≡ count_newer (joined c.self.inside.row.items) (joined c.other.inside.row.items)
  values = c.what_is_new.ensures.values ∙ (λ i. count_newer (joined (c.as_slice.ensures.value i)) (joined (c.as_slice-2.ensures.value i)))

pub returns-clause-few : goal.returns-clause-few
returns-clause-few c =
    let theirs = joined c.other.inside.row.items in
    omega (arith, ids c, lacking_few (joined c.self.inside.row.items) theirs, len_rising theirs c.other.invariant.row.rises, c.other.invariant.valid.few)

pub returns-clause-count : goal.returns-clause-count
returns-clause-count c =
    let ours = c.self.invariant.row.rises in
    let len = sym (ap (λ (v : ViewMap). fin.len v) c.self.view_is) ∙ len_rising (joined c.self.inside.row.items) ours in
    merged_count _ _ _ _ c.self.view_is c.other.view_is c.other.invariant.row.rises _ _ ours len (ids c)

pub returns-clause-none : goal.returns-clause-none
returns-clause-none c = merge_none _ _ _ _ c.self.view_is c.other.view_is c.other.invariant.row.rises _ (values c)

pub returns-clause-known : goal.returns-clause-known
returns-clause-known c =
    below_none _ _ _ _ c.self.view_is c.other.view_is c.other.invariant.row.rises _ c.other.invariant.valid (values c)
