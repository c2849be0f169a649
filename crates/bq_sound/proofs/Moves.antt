-- Pointers moved by numbers.
use Rattle.std.proofs.Common.{◌≡◌, ℕ, ◌+◌, ◌-◌, ◌^◌, ◌<◌, sym, ap, ◌∙◌, subst, inl, inr, arith, Some}
use Rattle.std.specs.Prelude.{ℤ, pos, negsuc, ◌+ℤ◌, ◌-ℤ◌}
use Rattle.std.proofs.lemmas.Int.{ints}
use Rattle.std.proofs.lemmas.Bool.{cases_lt, cases_Bool}
use Rattle.std.proofs.lemmas.Bool.Decides.{nat_tests}
use Rattle.bq_word.specs.Word.{low, modulo, operation}
use Rattle.bq_word.specs.declared.AluOp.TheVariants.{Add, Sub}
use Rattle.bq_meaning.specs.Place.{Place}
use Rattle.bq_meaning.specs.Meaning.{moved}
use Rattle.bq_range.specs.Interval.{Interval, IsIn}
use Rattle.bq_state.specs.Offsets.{Span, IsOffset, signed_of, is_limited, limited, moved_on, moved_back}
use Rattle.bq_sound.proofs.Words as words
use Rattle.bq_state.specs.declared.region.Region.{Region}
use Rattle.bq_state.specs.Covers.{start}

-- a word of a range, read with its sign
record Signed (a : Interval) (w : ℕ) : Type 0 where
  z : ℤ
  is : modulo 64 z ≡ w
  within : IsOffset z (signed_of a)

read_signed : (a : Interval) (w : ℕ) → w < 2 ^ 64 → IsIn w a → Signed a w
read_signed a w small h =
    elim (cases_lt w (2 ^ 63)) [
      | inl l ↦
          let within : IsOffset (pos w) (signed_of a) = record { low = grind (arith, nat_tests, ints); high = grind (arith, nat_tests, ints) } in
          record { z = pos w; is = words.word_is w small; within = within }
      | inr l ↦
          let z : ℤ = negsuc (2 ^ 64 - 1 - w) in
          let within : IsOffset z (signed_of a) = record { low = grind (arith, nat_tests, ints); high = grind (arith, nat_tests, ints) } in
          record { z = z; is = words.negative_is w small; within = within }
    ]

limited-some : (s t : Span) → limited s ≡ Some t → t ≡ s
limited-some s t e = elim (cases_Bool (is_limited s)) [ inl h ↦ grind arith | inr h ↦ grind arith ]

-- the pointer that a pointer and a word make
pub record Moved (region : Region) (t : Span) (f : Place → ℕ) : Type 0 where
  pub z : ℤ
  pub within : IsOffset z t
  pub is : (p : Place) → f p ≡ moved (start p region) z

added : (x y : Span) (z w : ℤ) → IsOffset z x → IsOffset w y → IsOffset (z +ℤ w) (record { lo = x.lo +ℤ y.lo; hi = x.hi +ℤ y.hi })
added x y z w h i = record { low = omega (arith, ints); high = omega (arith, ints) }

taken : (x y : Span) (z w : ℤ) → IsOffset z x → IsOffset w y → IsOffset (z -ℤ w) (record { lo = x.lo -ℤ y.hi; hi = x.hi -ℤ y.lo })
taken x y z w h i = record { low = omega (arith, ints); high = omega (arith, ints) }

pub on : (region : Region) (s t : Span) (a : Interval) (z : ℤ) (w : ℕ) → IsOffset z s → IsIn w a → w < 2 ^ 64 → moved_on s a ≡ Some t
    → Moved region t (λ p. operation 64 Add (moved (start p region) z) w)
on region s t a z w h i small e =
    let r = read_signed a w small i in
    let sum : Span = record { lo = s.lo +ℤ (signed_of a).lo; hi = s.hi +ℤ (signed_of a).hi } in
    record {
      z = z +ℤ r.z;
      within = subst (IsOffset (z +ℤ r.z)) (sym (limited-some sum t e)) (added s (signed_of a) z r.z h r.within);
      is = λ p. ap (λ (n : ℕ). low 64 (moved (start p region) z + n)) (sym r.is) ∙ words.moved_on (start p region) z r.z;
    }

pub back : (region : Region) (s t : Span) (a : Interval) (z : ℤ) (w : ℕ) → IsOffset z s → IsIn w a → w < 2 ^ 64 → moved_back s a ≡ Some t
    → Moved region t (λ p. operation 64 Sub (moved (start p region) z) w)
back region s t a z w h i small e =
    let r = read_signed a w small i in
    let difference : Span = record { lo = s.lo -ℤ (signed_of a).hi; hi = s.hi -ℤ (signed_of a).lo } in
    record {
      z = z -ℤ r.z;
      within = subst (IsOffset (z -ℤ r.z)) (sym (limited-some difference t e)) (taken s (signed_of a) z r.z h r.within);
      is = λ p. words.moved_back (start p region) w z r.z r.is;
    }
