-- Where both ranges are of the width, an edge leaves the least ranges.
use Rattle.std.proofs.Common.{◌≡◌, ◌^◌, ◌<◌, ◌≤◌, arith, ap, sym, subst, ◌∙◌}
use Rattle.bq_word.specs.Word.{bits_of}
use Rattle.bq_range.specs.Interval.{Interval}
use Rattle.bq_range.specs.Narrow.{by_opposite, IsNarrowing}
use Rattle.bq_range.proofs.Edges.{AreRanges}
use Rattle.bq_range.proofs.Both.{edge, HoldBoth, LieInside, edge_covers, edge_inside, edge_narrows}
use Rattle.bq_range.proofs.range.Range.narrow.Goals as goal

-- the two ranges are of the width
ranges : (c : goal.After-by_opposite) → AreRanges (bits_of c.args.width) c.args.a c.args.b
ranges c =
    let fits : Interval → Type 0 = λ i. i.hi < 2 ^ bits_of c.args.width in
    record {
      a_ordered = subst (λ i. i.lo ≤ i.hi) c.a.view_is c.a.invariant;
      b_ordered = subst (λ i. i.lo ≤ i.hi) c.b.view_is c.b.invariant;
      a_fits = subst fits c.a.view_is (omega arith);
      b_fits = subst fits c.b.view_is (omega arith);
    }

-- what was found is what the edge leaves
found : (c : goal.After-by_opposite) → edge (bits_of c.args.width) c.args.relation c.args.taken c.args.a c.args.b ≡ c.by_opposite.result
found c = sym (c.by_opposite.ensures ∙ ap (λ o. by_opposite (bits_of c.args.width) c.args.relation o c.args.taken c.args.a c.args.b) c.opposite.ensures)

pub returns-then-b-top-clause-covers : goal.returns-then-b-top-clause-covers
returns-then-b-top-clause-covers c = λ x y h k s.
    subst (HoldBoth x y) (found c) (edge_covers c.args.width _ _ (ranges c) c.args.relation c.args.taken x y h k s)

pub returns-then-b-top-clause-inside : goal.returns-then-b-top-clause-inside
returns-then-b-top-clause-inside c = subst (LieInside c.args.a c.args.b) (found c) (edge_inside c.args.width _ _ (ranges c) c.args.relation c.args.taken)

pub returns-then-b-top-clause-least : goal.returns-then-b-top-clause-least
returns-then-b-top-clause-least c = λ n _ _.
    subst (IsNarrowing _ c.args.a c.args.b) (found c) (edge_narrows c.args.width _ _ (ranges c) c.args.relation c.args.taken n)
