-- View::merged: this view and the other as one: for each node the value with the larger number, this view's at
-- equal ones.
use Rattle.std.proofs.Common.{◌≡◌, ◌+◌, ◌≤◌, sym, subst, ap, ◌∙◌, arith}
use Rattle.std.specs.FinMap as fin
use Rattle.sc_view.specs.Rows.{joined}
use Rattle.sc_view.specs.Views.{ViewMap, IsView, merge}
use Rattle.sc_view.proofs.MapLemmas.{view_of, len_rising}
use Rattle.sc_view.proofs.ViewLemmas.{merge_valid}
use Rattle.sc_view.proofs.view.View.merged.Goals as goal

pub invariant_of-result : goal.invariant_of-result
invariant_of-result c =
    let both : view_of (joined c.in_ok-row.row.items) ≡ merge c.args.self.now c.args.other.now =
    cc (c.in_ok-row.ensures.ok, c.as_slice.ensures.value, c.self.view_is, c.other.view_is) in
    let count : c.len.result + c.news_of-news.result.ids ≡ fin.len (merge c.args.self.now c.args.other.now) =
    omega (arith, c.len.ensures.count, c.news_of-news.ensures.count) in
    let few : fin.len (merge c.args.self.now c.args.other.now) ≤ 256 = omega (arith, count, c.if-count-gt-MOST_ENTRIES.false) in
    record {
      row = c.in_ok-row.ensures.row;
      counted = count ∙ sym (ap (λ (v : ViewMap). fin.len v) both) ∙ len_rising (joined c.in_ok-row.row.items) c.in_ok-row.ensures.row.rises;
      valid = subst IsView (sym both) (merge_valid _ _ c.news_of-news.ensures.valid c.news_of-news.ensures.other_valid few);
    }

pub returns-clause-valid : goal.returns-clause-valid
returns-clause-valid c = (invariant_of-result c).valid
