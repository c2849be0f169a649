-- Counted::fill: reads until the buffer is full or the input ends, and gives how many bytes came.
use Rattle.std.proofs.Common.{◌+◌, ◌-◌, ◌++◌, rules, arith, length, take, ap, ◌∙◌, subst, le_refl, sym}
use Rattle.std.proofs.lemmas.Slice.{take-put_mid_below}
use Rattle.std.specs.Io.KnownBytes.{Consumes}
use Rattle.std.proofs.KnownBytes.{Consumes-trans}
use borrow.Rule.Slice.PartMut.{put_mid}
use Rattle.q_outside.proofs.Parts.{take_split, slice_range-put_mid}
use Rattle.q_outside.proofs.counted.Counted.fill.Goals as goal

pub loop-at-preserved : goal.loop-at-preserved
loop-at-preserved g c =
    let i = c.loop-at.invariant in
    let from = c.loop-at.at in
    let into = c.loop-at.into in
    let room = length into - from in
    let within = i.1 in
    let part = slice_range-put_mid from room c.in-Ok.n into c.read.new.buf within c.in-Ok.ensures.bound.0 in
    let kept = take-put_mid_below _ _ _ _ _ (le_refl _) within in
    let joined = take_split from (from + c.in-Ok.n) into (put_mid from room into c.read.new.buf) (omega arith) kept in
    let consumed = Consumes-trans _ _ _ _ _ i.5 c.in-Ok.ensures.bytes.0 in
    let taken = subst (Consumes _ _) (ap (λ l. take from into ++ l) (sym part) ∙ joined) consumed in
    (search rules, search rules, search rules, search rules, search rules, taken)
