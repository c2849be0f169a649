-- Where the end is above the shifted top, the shifted end is above the top.
use Rattle.std.proofs.Common.{◌≡◌, ◌^◌, ◌<◌, ◌*◌, ◌/◌, arith, ap, sym, ◌∙◌}
use Rattle.std.proofs.lemmas.Bool.{lt-leb, cond-false}
use Rattle.std.proofs.lemmas.Nat.{pow_pos}
use Rattle.std.proofs.Math.Nat.{div-lt_iff_lt-mul}
use Rattle.bq_word.specs.Word.{bits_of}
use Rattle.bq_range.specs.Interval.{Interval, top}
use Rattle.bq_range.proofs.range.arithmetic.shifted_left.Goals as goal

pub returns-else-a-top : goal.returns-else-a-top
returns-else-a-top c =
    let hi : c.a.inside.hi ≡ c.args.a.hi = ap (λ (i : Interval). i.hi) c.a.view_is in
    let above : c.top.result / 2 ^ c.args.count < c.args.a.hi = omega arith in
    let over : c.top.result < c.args.a.hi * 2 ^ c.args.count = (div-lt_iff_lt-mul (pow_pos c.args.count)).0 above in
    let e : top (bits_of c.args.width) < c.args.a.hi * 2 ^ c.args.count = omega (arith, c.top.ensures.value) in
    c.whole.ensures ∙ sym (cond-false _ _ _ (lt-leb (c.args.a.hi * 2 ^ c.args.count) (top (bits_of c.args.width)) e))
