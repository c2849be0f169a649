-- place: the chunk where an id belongs: all ids before it are smaller, and all behind it are larger.
use Rattle.std.proofs.Common.{take, drop, sym, ap, subst, ◌∙◌, arith}
use Rattle.sc_view.specs.Rows.{joined, Under, Over, starts_above}
use Rattle.sc_view.proofs.RowLemmas.{past, not_yet}
use Rattle.sc_view.proofs.row.place.Goals as goal

pub returns-then-starts_above-clause-over : goal.returns-then-starts_above-clause-over
returns-then-starts_above-clause-over c =
    let above = ap (starts_above c.args.id) (sym c.index-row-k.is) ∙ sym c.starts_above.ensures ∙ c.if-starts_above.true in
    subst (λ n. Over c.args.id (joined (drop n c.args.row.now))) (omega (arith, c.loop-k.invariant.0))
    (past c.args.id c.args.row.now c.loop-k.k c.index-row-k.result c.requires c.loop-k-test.true above)

pub loop-k-preserved : goal.loop-k-preserved
loop-k-preserved c =
    let above = ap (starts_above c.args.id) (sym c.index-row-k.is) ∙ sym c.starts_above.ensures ∙ c.if-starts_above.false in
    let under = not_yet c.args.id c.args.row.now c.loop-k.k c.index-row-k.result c.requires c.loop-k-test.true c.loop-k.invariant.0 above in
    (omega arith, subst (λ n. Under c.args.id (joined (take n c.args.row.now))) (omega arith) under)
