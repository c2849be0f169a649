-- What holds of both ranges of a choice holds of the one that a test picks, and other common steps.
use Rattle.std.proofs.Common.{◌≡◌, ℕ, ◌/◌, ◌^◌, ◌<◌, ◌≤◌, Bool, true, false, cond, eqb, ltb, leb, arith}
use Rattle.std.proofs.lemmas.Bool.{cond_both, ltb-true, ltb-false, leb-true, leb-false, eqb-true, eqb-false}
use Rattle.std.proofs.lemmas.Nat.{mul-le, le-div}
use Rattle.std.proofs.Math.Nat.{div-mul-le_self}
use Rattle.bq_word.specs.Word.{bits_of}
use Rattle.bq_word.specs.declared.Width.{Width}
use Rattle.bq_word.specs.declared.Width.TheVariants.{W32, W64}
use Rattle.bq_range.specs.Interval.{Interval, IsIn, Within, whole}

pub words : (width : Width) → 2 ^ bits_of width ≤ 2 ^ 64
words W32 = omega arith
words W64 = omega arith

pub IsIn-whole : (w n : ℕ) → n < 2 ^ w → IsIn n (whole w)
IsIn-whole w n h = record { low = omega arith; high = omega arith }

pub itself : (a : Interval) → Within a a
itself a = record { low = omega arith; high = omega arith }

pub pick : (t : Bool) (u v : Interval) (n : ℕ) → (t ≡ true → IsIn n u) → (t ≡ false → IsIn n v) → IsIn n (cond t u v)
pick t u v n = cond_both t u v (λ r. IsIn n r)

pub choose_le : (P : Interval → Type 0) (i j : ℕ) (u v : Interval) → (i ≤ j → P u) → (j < i → P v) → P (cond (leb i j) u v)
choose_le P i j u v f g = cond_both (leb i j) u v P (λ e. f (leb-true i j e)) (λ e. g (leb-false i j e))

pub choose_lt : (P : Interval → Type 0) (i j : ℕ) (u v : Interval) → (i < j → P u) → (j ≤ i → P v) → P (cond (ltb i j) u v)
choose_lt P i j u v f g = cond_both (ltb i j) u v P (λ e. f (ltb-true i j e)) (λ e. g (ltb-false i j e))

pub pick_le : (i j : ℕ) (u v : Interval) (n : ℕ) → (i ≤ j → IsIn n u) → (j < i → IsIn n v) → IsIn n (cond (leb i j) u v)
pick_le i j u v n = choose_le (IsIn n) i j u v

pub pick_lt : (i j : ℕ) (u v : Interval) (n : ℕ) → (i < j → IsIn n u) → (j ≤ i → IsIn n v) → IsIn n (cond (ltb i j) u v)
pick_lt i j u v n = choose_lt (IsIn n) i j u v

-- of a single number or of more
pub pick_eq : (i j : ℕ) (u v : Interval) (n : ℕ) → (i ≡ j → IsIn n u) → IsIn n v → IsIn n (cond (eqb i j) u v)
pick_eq i j u v n f g = pick (eqb i j) u v n (λ e. f (eqb-true i j e)) (λ _. g)

-- both values of a choice on a divisor lie in a range
pub held_both : (r : Interval) (d m n : ℕ) → (d ≡ 0 → IsIn m r) → ((d ≡ 0 → ⊥) → IsIn n r) → IsIn (cond (eqb d 0) m n) r
held_both r d m n f g = cond_both (eqb d 0) m n (λ v. IsIn v r) (λ e. f (eqb-true d 0 e)) (λ e. g (eqb-false d 0 e))

pub div_mono : (x y c d : ℕ) → x ≤ y → d ≤ c → 0 < d → x / c ≤ y / d
div_mono x y c d h k p = le-div (x / c) y d p (omega (arith, div-mul-le_self x c, mul-le (x / c) d (x / c) c (omega arith) k))
