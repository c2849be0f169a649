-- On one side of the sign the shifted ends keep their order.
use Rattle.std.proofs.Common.{arith, ap, ◌≡◌}
use Rattle.bq_word.specs.Word.{bits_of}
use Rattle.bq_range.specs.Interval.{Interval, between}
use Rattle.bq_range.proofs.Rows.{OneSide, shift_mono}
use Rattle.bq_range.proofs.range.arithmetic.arithmetic_right_shifts.Goals as goal

pub invariant_of-result : goal.invariant_of-result
invariant_of-result c =
    let hi : c.a.inside.hi ≡ c.args.a.hi = ap (λ (i : Interval). i.hi) c.a.view_is in
    let w = bits_of c.args.width in
    let ends = between c.a.inside.lo c.a.inside.hi in
    let side : OneSide w ends = grind (arith, c.sign-half.ensures, c.if-a-half.branch, c.if-half-a.either) in
    omega (arith, c.alu.ensures, c.alu-then-half-a.ensures, shift_mono w ends.lo ends.hi c.b.inside.lo c.a.invariant (omega arith) side)
