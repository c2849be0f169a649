-- `ones x` is the least number of set bits alone that is at least x.
use Rattle.std.proofs.Common.{◌≡◌, ℕ, suc, ◌+◌, ◌-◌, ◌*◌, ◌/◌, ◌^◌, ◌<◌, ◌≤◌, arith, inl, inr, refl}
use Rattle.std.proofs.lemmas.Bool.{cases_lt}
use Rattle.std.proofs.lemmas.Nat.{leading_le, leading_length, pow_pos}
use Rattle.std.proofs.lemmas.Nat.Bits.{ones_shr}
use Rattle.std.proofs.Math.Nat.{pow-le-pow_right, pow-suc}
use Rattle.std.specs.Int.Count.{count_leading_zeros, leading_of_zero}
use Rattle.bq_range.specs.Table.{ones}

pub ones-zero : 0 ≡ ones 0
unfolding ones
ones-zero = rw (leading_of_zero 64) refl

pub ones_is : (x : ℕ) → (2 ^ 64 - 1) / 2 ^ count_leading_zeros 64 x ≡ ones x
unfolding ones
ones_is x = ones_shr 64 (count_leading_zeros 64 x) (leading_le 64 x)

pub ones_above : (x : ℕ) → x < 2 ^ 64 → x ≤ ones x
unfolding ones
ones_above x h =
    let (m, e, below, _) = leading_length 64 x h in
    let k : 64 - count_leading_zeros 64 x ≡ m = omega arith in
    rw k (omega arith)

-- a power of two that is at most 2 * x + 1 is at most the power that is above x
least_power : (m k x : ℕ) → 2 ^ m ≤ 2 * x + 1 → x < 2 ^ k → 2 ^ m ≤ 2 ^ k
least_power m k x h l =
    elim (cases_lt k m) [
      | inl lt ↦ let p : 2 ^ suc k ≤ 2 ^ m = pow-le-pow_right (omega arith) lt in absurd (omega (arith, pow-suc 2 k))
      | inr le ↦ pow-le-pow_right (omega arith) le
    ]

pub ones_least : (x k : ℕ) → x < 2 ^ 64 → x < 2 ^ k → ones x < 2 ^ k
unfolding ones
ones_least x k h l =
    let (m, e, _, above) = leading_length 64 x h in
    let n : 64 - count_leading_zeros 64 x ≡ m = omega arith in
    rw n (omega (arith, least_power m k x above l, pow_pos m))

pub ones_power : (x : ℕ) → (k : ℕ) × (ones x ≡ 2 ^ k - 1)
unfolding ones
ones_power x = (64 - count_leading_zeros 64 x, refl)
