-- Every row is monotone: the lemmas of `Monotone` and `MonotoneEdges` as one.
use Rattle.std.proofs.Common.{ℕ, ◌^◌, ◌<◌, arith}
use Rattle.std.proofs.lemmas.Nat.{pow_pos}
use Rattle.bq_range.specs.Interval.{Interval, join}
use Rattle.bq_range.specs.Table.{ones, IsLeastOnes}
use Rattle.bq_range.specs.Monotone.{IsPart, RowsAreMonotone}
use Rattle.bq_range.proofs.Ones.{ones_above, ones_least, ones_power}
use Rattle.bq_range.proofs.Monotone.{operated_part, negated_part, sign_extended_part, low_range_part, swapped_range_part}
use Rattle.bq_range.proofs.MonotoneEdges.{branched_less, branched_inside}

join_part : (a b c d : Interval) → IsPart a c → IsPart b d → IsPart (join a b) (join c d)
join_part a b c d h k = record {
  words = record { ordered = omega (arith, h.words.ordered, k.words.ordered); words = omega (arith, h.words.words, k.words.words) };
  within = record { low = omega (arith, h.within.low, k.within.low); high = omega (arith, h.within.high, k.within.high) };
}

pub rows_are_monotone : RowsAreMonotone
rows_are_monotone = record {
  operations = operated_part;
  negations = negated_part;
  extensions = sign_extended_part;
  low_bits = low_range_part;
  swaps = swapped_range_part;
  branches = branched_less;
  narrows = branched_inside;
  joins = join_part;
}

pub least_ones : (x : ℕ) → x < 2 ^ 64 → IsLeastOnes x (ones x)
least_ones x h = record {
  power = ones_power x;
  above = ones_above x h;
  least = λ k l. let below : ones x < 2 ^ k = ones_least x k h (omega (arith, l, pow_pos k)) in omega (arith, below);
}
