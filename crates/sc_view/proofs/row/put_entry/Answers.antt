-- put_entry: learns an entry.
use Rattle.std.proofs.Common.{◌≤◌, ◌<◌, [], length, sym, subst}
use Rattle.sc_view.specs.Rows.{IsRow, LearnsAt}
use Rattle.sc_view.proofs.AllLemmas.{all_at}
use Rattle.sc_view.proofs.EntryLemmas.{Row}
use Rattle.sc_view.proofs.RowLemmas.{Belongs, put_learnt}
use Rattle.sc_view.proofs.row.put_entry.Goals as goal

pub learn_at-requires-clause-few : goal.learn_at-requires-clause-few
learn_at-requires-clause-few c =
    let within = subst (λ (r : Row). c.place-at.result < length r) c.as_slice.ensures.value c.place-at.ensures.within in
    all_at (λ c. length c ≤ 32) c.args.row.now.items c.place-at.result [] c.requires.row.most within

pub returns-then-branch : goal.returns-then-branch
returns-then-branch c =
    let row = c.args.row.now.items in
    let at : Belongs c.args.id row c.place-at.result =
    subst (λ (r : Row). Belongs c.args.id r c.place-at.result) c.as_slice.ensures.value (record {
      row = subst IsRow (sym c.as_slice.ensures.value) c.requires.row;
      within = c.place-at.ensures.within;
      under = c.place-at.ensures.under;
      over = c.place-at.ensures.over;
    }) in
    let learns = subst (LearnsAt c.place-at.result c.args.id c.args.stored row c.learn_at.new.row.items) c.if-branch.true c.in_ok-learn_at.ensures.ok in
    let made = put_learnt c.args.id c.args.stored row c.learn_at.new.row.items c.place-at.result at learns in
    record { ok = made.entries; row = made.row; err = tt }
