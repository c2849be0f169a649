-- The signed quotient and remainder of words, as the program computes them and as the definitions say them.
use Rattle.std.proofs.Common.{◌≡◌, ℕ, zero, suc, ◌-◌, ◌/◌, ◌%◌, ◌^◌, ◌<◌, ◌≤◌, Bool, true, false, cond, eqb, ltb, refl, ap, sym, ◌∙◌, subst, arith, Fits}
use Rattle.std.specs.Prelude.{ℤ, pos, negsuc, neg_ℤ, int_div, int_rem}
use Rattle.std.specs.Int.{w32, w64, cast_signed, cast_unsigned}
use Rattle.std.proofs.lemmas.Bool.{cond-false, ne_eqb}
use Rattle.std.proofs.lemmas.Int.{of_z-to_z}
use Rattle.std.proofs.Math.Nat.{div-le_self, mod-eq_of_lt}
use Rattle.std.proofs.Math.Facts.{sfits_to_z}
use Rattle.bq_word.specs.Word.{operation, low, modulo, signed}
use Rattle.bq_word.specs.declared.AluOp.TheVariants.{SignedDiv, SignedMod}
use Rattle.bq_word.proofs.Bounds.{modulo_bound, operation_bound}
use lib.Signed.{mag, mag_rem}
use mir.Syntax.{Width}
use mir.Val.{bits, hbits, sel}

chosen : (t : Bool) (x y z : ℤ) → y ≡ z → cond t x y ≡ sel t x z
chosen true x y z e = refl
chosen false x y z e = e

-- a number is its own bits where it is not far from 0
wrapped : (w : Width) (z : ℤ) → mag z < 2 ^ bits w → cast_unsigned w z ≡ modulo (bits w) z
wrapped w (pos n) h = sym (mod-eq_of_lt h)
wrapped w (negsuc n) h =
    let m : n % 2 ^ bits w ≡ n = mod-eq_of_lt h in
    let e : 2 ^ bits w - suc n ≡ 2 ^ bits w - 1 - n = omega arith in
    rw m e

mag_negative : (n : ℕ) → mag (neg_ℤ (pos n)) ≤ n
mag_negative zero = omega arith
mag_negative (suc n) = omega arith

mag_quotient : (x y : ℤ) (m : ℕ) → mag x < m → mag (int_div x y) ≤ m
mag_quotient (pos a) (pos b) m h = omega (arith, div-le_self a b)
mag_quotient (pos a) (negsuc b) m h = omega (arith, div-le_self a (suc b), mag_negative (a / suc b))
mag_quotient (negsuc a) (pos b) m h = omega (arith, div-le_self (suc a) b, mag_negative (suc a / b))
mag_quotient (negsuc a) (negsuc b) m h = omega (arith, div-le_self (suc a) (suc b))

-- numbers are passed by their bits
abbrev passed : Width → ℤ → ℤ
passed w z = cast_signed w (cast_unsigned w z)

passed_is : (w : Width) (a : ℕ) (x : ℤ) → Fits w a → x ≡ cast_signed w a → passed w x ≡ cast_signed w a
passed_is w a x f e = ap (passed w) e ∙ ap (cast_signed w) (of_z-to_z w a f.fits)

returned : (w : Width) (q : ℤ) (r n : ℕ) → n < 2 ^ bits w → cast_unsigned w q ≡ n → r ≡ cast_unsigned w (passed w q) → r ≡ n
returned w q r n h e is = is ∙ of_z-to_z w (cast_unsigned w q) (subst (λ k. k < 2 ^ bits w) (sym e) h) ∙ e

-- r is what an operation leaves of a and b, where x and y are the numbers of these bits, and q what is computed of them
abbrev pub IsQuotient : Width → Type 0
IsQuotient w = (a b r : ℕ) (x y q : ℤ) → Fits w a → Fits w b → (b ≡ 0 → ⊥) → x ≡ cast_signed w a → y ≡ cast_signed w b
    → q ≡ cast_signed w (cast_unsigned w (int_div (passed w x) (passed w y))) → r ≡ cast_unsigned w (passed w q) → r ≡ operation (bits w) SignedDiv a b

abbrev pub IsRemainder : Width → Type 0
IsRemainder w = (a b r : ℕ) (x y q : ℤ) → Fits w a → Fits w b → (b ≡ 0 → ⊥) → x ≡ cast_signed w a → y ≡ cast_signed w b
    → q ≡ int_rem (passed w x) (passed w y) → r ≡ cast_unsigned w (passed w q) → r ≡ operation (bits w) SignedMod a b

module _ (w : Width) (half : bits w - 1 ≡ hbits w) (more : 2 ^ hbits w < 2 ^ bits w) where
  signed_is : (a : ℕ) → a < 2 ^ bits w → signed (bits w) a ≡ cast_signed w a
  signed_is a h =
      let m : a % 2 ^ bits w ≡ a = mod-eq_of_lt h in
      let e : 2 ^ bits w - 1 - a ≡ 2 ^ bits w - suc a = omega arith in
      rw (m, half) (chosen (ltb a (2 ^ hbits w)) (pos a) (negsuc (2 ^ bits w - 1 - a)) (negsuc (2 ^ bits w - suc a)) (ap negsuc e))

  -- the quotient of two numbers, the first of which fits half of the width, computed and as it is defined
  quotient : (x y : ℤ) → mag x < 2 ^ hbits w → cast_unsigned w (cast_signed w (cast_unsigned w (int_div x y))) ≡ modulo (bits w) (int_div x y)
  quotient x y l =
      let e = wrapped w (int_div x y) (omega (arith, more, mag_quotient x y (2 ^ hbits w) l)) in
      of_z-to_z w (cast_unsigned w (int_div x y)) (subst (λ n. n < 2 ^ bits w) (sym e) (modulo_bound (bits w) (int_div x y))) ∙ e

  remainder : (x y : ℤ) → mag x < 2 ^ hbits w → cast_unsigned w (int_rem x y) ≡ modulo (bits w) (int_rem x y)
  remainder x y l = wrapped w (int_rem x y) (omega (arith, more, mag_rem x y))

  -- a divisor that is not 0
  some : (b k n : ℕ) → Fits w b → (b ≡ 0 → ⊥) → n ≡ cond (eqb (low (bits w) b) 0) k n
  some b k n g not = sym (cond-false (eqb (low (bits w) b) 0) k n (ap (λ (m : ℕ). eqb m 0) (mod-eq_of_lt g.fits) ∙ ne_eqb b 0 not))

  quotient_is : IsQuotient w
  quotient_is a b r x y q f g n ex ey eq er =
      returned w q r (operation (bits w) SignedDiv a b) (operation_bound (bits w) SignedDiv a b)
      (ap (cast_unsigned w) eq ∙ ap (λ u. cast_unsigned w (cast_signed w (cast_unsigned w (int_div u (passed w y))))) (passed_is w a x f ex)
      ∙ ap (λ v. cast_unsigned w (cast_signed w (cast_unsigned w (int_div (cast_signed w a) v)))) (passed_is w b y g ey)
      ∙ rw (signed_is a f.fits, signed_is b g.fits) (quotient (cast_signed w a) (cast_signed w b) (sfits_to_z f).sfits ∙ some b 0 _ g n)) er

  remainder_is : IsRemainder w
  remainder_is a b r x y q f g n ex ey eq er =
      returned w q r (operation (bits w) SignedMod a b) (operation_bound (bits w) SignedMod a b)
      (ap (cast_unsigned w) eq ∙ ap (λ u. cast_unsigned w (int_rem u (passed w y))) (passed_is w a x f ex)
      ∙ ap (λ v. cast_unsigned w (int_rem (cast_signed w a) v)) (passed_is w b y g ey)
      ∙ rw (signed_is a f.fits, signed_is b g.fits) (remainder (cast_signed w a) (cast_signed w b) (sfits_to_z f).sfits ∙ some b (low (bits w) a) _ g n)) er

pub quotient64 : IsQuotient w64
quotient64 = quotient_is w64 refl (omega arith)

pub remainder64 : IsRemainder w64
remainder64 = remainder_is w64 refl (omega arith)

pub quotient32 : IsQuotient w32
quotient32 = quotient_is w32 refl (omega arith)

pub remainder32 : IsRemainder w32
remainder32 = remainder_is w32 refl (omega arith)
