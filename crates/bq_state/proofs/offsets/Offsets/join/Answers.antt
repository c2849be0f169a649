-- Offsets::join: the least offsets that cover both.
use Rattle.std.proofs.Common.{arith}
use Rattle.std.proofs.lemmas.Int.{ints, clamps}
use Rattle.bq_state.proofs.offsets.Offsets.join.Goals as goal

pub invariant_of-result : goal.invariant_of-result
invariant_of-result c = record {
  low = omega (arith, ints, clamps);
  ordered = omega (arith, ints, clamps);
  high = omega (arith, ints, clamps);
}
