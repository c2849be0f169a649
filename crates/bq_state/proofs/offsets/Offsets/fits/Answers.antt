-- Offsets::fits: whether `size` bytes at a distance from each of these offsets lie in a region of `len` bytes.
use Rattle.std.proofs.Common.{arith, ap, ◌+ℤ◌, w64}
use Rattle.std.proofs.lemmas.Int.{ints}
use Rattle.bq_state.specs.Offsets.{Span}
use Rattle.bq_state.proofs.Spans.{kept, fits_above, fits_below}
use Rattle.bq_state.proofs.offsets.Offsets.fits.Goals as goal

pub overflow_add-result-then-lo-offset-ge0 : goal.overflow_add-result-then-lo-offset-ge0
overflow_add-result-then-lo-offset-ge0 c = omega (arith, ints)

pub returns-then-lo-offset-ge0 : goal.returns-then-lo-offset-ge0
returns-then-lo-offset-ge0 c =
    let l = ap (λ (s : Span). s.lo) c.self.view_is in
    let h = ap (λ (s : Span). s.hi) c.self.view_is in
    let a = kept w64 (kept w64 c.from-lo.result +ℤ kept w64 c.from-offset.result) in
    let x = kept w64 (kept w64 (kept w64 c.from-hi.result +ℤ kept w64 c.from-offset.result) +ℤ kept w64 c.from.result) in
    let top = kept w64 c.from-then-lo-offset-ge0.result in
    fits_above c.args.self c.args.offset c.args.size c.args.len a x top c.if-lo-offset-ge0.true (omega (arith, ints, l, h))
    (omega (arith, ints, l, h)) (omega (arith, ints, l, h))

pub returns-else-lo-offset-ge0 : goal.returns-else-lo-offset-ge0
returns-else-lo-offset-ge0 c =
    let l = ap (λ (s : Span). s.lo) c.self.view_is in
    let h = ap (λ (s : Span). s.hi) c.self.view_is in
    let a = kept w64 (kept w64 c.from-lo.result +ℤ kept w64 c.from-offset.result) in
    fits_below c.args.self c.args.offset c.args.size c.args.len a c.if-lo-offset-ge0.false (omega (arith, ints, l, h))
