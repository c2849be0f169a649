-- Offsets::moved_back: these offsets moved back by a number of the range, read with its sign; none where they leave
-- the limit.
use Rattle.std.proofs.Common.{arith, ◌-ℤ◌}
use Rattle.std.proofs.lemmas.Int.{ints}
use mir.Syntax.{w128}
use Rattle.bq_state.proofs.Spans.{kept, same_ends, moved_back_is}
use Rattle.bq_state.proofs.offsets.Offsets.moved_back.Goals as goal

pub limited-requires : goal.limited-requires
limited-requires c = omega (arith, ints)

pub returns : goal.returns
returns c =
    let e = same_ends c.self.view_is in
    let lo = kept w128 (kept w128 c.from.result -ℤ kept w128 c.of-by.result.hi) in
    let hi = kept w128 (kept w128 c.from-2.result -ℤ kept w128 c.of-by.result.lo) in
    record { row = moved_back_is c.args.self c.args.by _ lo hi c.limited.ensures (omega (arith, ints, e.0, e.1)) (omega (arith, ints, e.0, e.1)) }
