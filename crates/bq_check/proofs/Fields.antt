-- The bytes of ranges, offsets, kinds, states and notes can be told apart.
use Rattle.std.proofs.Common.{◌≡◌, ℕ, ◌<◌, ◌^◌, ℤ, pos, negsuc, ◌≤ℤ◌, List, [], ◌∷◌, ◌++◌, Option, Some, None, refl, sym, ap, ◌∙◌, arith}
use Rattle.std.proofs.lemmas.Int.{ints}
use Rattle.std.specs.Int.{w32, cast_signed, cast_unsigned}
use Rattle.spelling.specs.Numbers.{number_bytes}
use Rattle.spelling.specs.Codes.{IsPrefixCode, BeginsNone}
use Rattle.spelling.proofs.Codes.{one_byte, other_byte, numbers_are_code, once, counted, AreCounted, HasParts, two_parts}
use Rattle.bq_range.specs.Interval.{Interval, IsInterval, between}
use Rattle.bq_state.specs.Offsets.{Span, IsSpan}
use Rattle.bq_state.specs.declared.kind.Kind.{Kind}
use Rattle.bq_state.specs.Kinds.{StateKinds, state_of}
use Rattle.bq_state.specs.declared.kind.Kind.TheVariants.{Unset, Number, Pointer, Length}
use Rattle.bq_state.specs.declared.region.Region.{Region}
use Rattle.bq_state.specs.declared.region.Region.TheVariants.{Frame, Record}
use Rattle.bq_check.specs.declared.form.NotesForm.{NotesForm}
use Rattle.bq_check.specs.declared.form.NotesForm.TheVariants.{First, Second}
use Rattle.bq_check.specs.Spelling.{range_bytes, span_bytes, region_byte, kind_bytes, kinds_bytes, lengths_bytes, state_bytes, note_bytes, notes_bytes}
use Rattle.bq_check.specs.Spelling.{IsKind, IsKinds, HasLengths, IsState, IsNote, IsNotes}

-- ---- ranges

abbrev pub IsWord : ℕ → Type 0
IsWord n = n < 2 ^ 64

pub range_parts : HasParts (λ (a : Interval). a.lo) (λ (a : Interval). a.hi) (number_bytes 8) (number_bytes 8) IsWord IsWord IsInterval
range_parts = record {
  front = numbers_are_code 8;
  behind = numbers_are_code 8;
  legal = λ a p. (omega (arith, p.ordered, p.words), p.words);
  known = λ a b p q lo hi. λ i. between (lo i) (hi i);
}

pub ranges_are_code : IsPrefixCode range_bytes IsInterval
ranges_are_code = two_parts range_parts

-- ---- offsets

abbrev pub IsOffset : ℤ → Type 0
IsOffset z = (negsuc 65535 ≤ℤ z) × (z ≤ℤ pos 65536)

offset_small : (z : ℤ) → IsOffset z → cast_unsigned w32 z < 2 ^ 32
offset_small (pos n) h = omega (arith, ints, h.1)
offset_small (negsuc n) h = omega (arith, ints, h.0)

-- a number that was read, cast to a signed one
pub same_offset : (z : ℤ) → IsOffset z → cast_signed w32 (cast_unsigned w32 z) ≡ z
same_offset (pos n) h = omega (arith, ints, h.1)
same_offset (negsuc n) h = omega (arith, ints, h.0)

offset_once : (a b : ℤ) → IsOffset a → IsOffset b → cast_unsigned w32 a ≡ cast_unsigned w32 b → a ≡ b
offset_once a b p q e = sym (same_offset a p) ∙ ap (cast_signed w32) e ∙ same_offset b q

pub are_offsets : (s : Span) → IsSpan s → IsOffset s.lo × IsOffset s.hi
are_offsets s h = ((h.low, omega (arith, ints, h.ordered, h.high)), (omega (arith, ints, h.ordered, h.low), h.high))

abbrev pub IsShort : ℕ → Type 0
IsShort n = n < 2 ^ 32

pub span_parts : HasParts (λ (s : Span). cast_unsigned w32 s.lo) (λ (s : Span). cast_unsigned w32 s.hi) (number_bytes 4) (number_bytes 4) IsShort IsShort IsSpan
span_parts = record {
  front = numbers_are_code 4;
  behind = numbers_are_code 4;
  legal = λ s p. let o = are_offsets s p in (offset_small s.lo o.0, offset_small s.hi o.1);
  known = λ a b p q lo hi. λ i. record {
    lo = offset_once a.lo b.lo (are_offsets a p).0 (are_offsets b q).0 lo i;
    hi = offset_once a.hi b.hi (are_offsets a p).1 (are_offsets b q).1 hi i;
  };
}

pub spans_are_code : IsPrefixCode span_bytes IsSpan
spans_are_code = two_parts span_parts

-- ---- kinds

region_above : (n : ℕ) (r : Region) → n < 2 → n ≡ region_byte r → ⊥
region_above n Frame l e = omega (arith, l, e)
region_above n Record l e = omega (arith, l, e)

region_below : (r : Region) → 4 ≡ region_byte r → ⊥
region_below Frame e = omega (arith, e)
region_below Record e = omega (arith, e)

one_region : (r t : Region) → region_byte r ≡ region_byte t → r ≡ t
one_region Frame Frame e = refl
one_region Record Record e = refl
one_region Frame Record e = absurd (omega (arith, e))
one_region Record Frame e = absurd (omega (arith, e))

one_kind : (form : NotesForm) (a b : Kind) (x y : List ℕ) → IsKind form a → IsKind form b → kind_bytes a ++ x ≡ kind_bytes b ++ y → (a ≡ b) × (x ≡ y)
one_kind form Unset Unset x y p q e = (refl, (one_byte 0 0 x y e).1)
one_kind form Unset (Number b) x y p q e = absurd (other_byte 0 1 _ _ (λ h. omega (arith, h)) e)
one_kind form Unset (Pointer r b) x y p q e = absurd (region_above 0 r (omega arith) (one_byte 0 (region_byte r) _ _ e).0)
one_kind form Unset Length x y p q e = absurd (other_byte 0 4 _ _ (λ h. omega (arith, h)) e)
one_kind form (Number a) Unset x y p q e = absurd (other_byte 1 0 _ _ (λ h. omega (arith, h)) e)
one_kind form (Number a) (Number b) x y p q e =
    let s = ranges_are_code.one a b x y p q (one_byte 1 1 (range_bytes a ++ x) (range_bytes b ++ y) e).1 in
    (ap Number s.0, s.1)
one_kind form (Number a) (Pointer r b) x y p q e = absurd (region_above 1 r (omega arith) (one_byte 1 (region_byte r) _ _ e).0)
one_kind form (Number a) Length x y p q e = absurd (other_byte 1 4 _ _ (λ h. omega (arith, h)) e)
one_kind form (Pointer r a) Unset x y p q e = absurd (region_above 0 r (omega arith) (sym (one_byte (region_byte r) 0 _ _ e).0))
one_kind form (Pointer r a) (Number b) x y p q e = absurd (region_above 1 r (omega arith) (sym (one_byte (region_byte r) 1 _ _ e).0))
one_kind form (Pointer r a) (Pointer t b) x y p q e =
    let h = one_byte (region_byte r) (region_byte t) (span_bytes a ++ x) (span_bytes b ++ y) e in
    let s = spans_are_code.one a b x y p q h.1 in
    (ap (λ z. Pointer z a) (one_region r t h.0) ∙ ap (Pointer t) s.0, s.1)
one_kind form (Pointer r a) Length x y p q e = absurd (region_below r (sym (one_byte (region_byte r) 4 _ _ e).0))
one_kind form Length Unset x y p q e = absurd (other_byte 4 0 _ _ (λ h. omega (arith, h)) e)
one_kind form Length (Number b) x y p q e = absurd (other_byte 4 1 _ _ (λ h. omega (arith, h)) e)
one_kind form Length (Pointer r b) x y p q e = absurd (region_below r (one_byte 4 (region_byte r) _ _ e).0)
one_kind form Length Length x y p q e = (refl, (one_byte 4 4 x y e).1)

-- ---- lengths

abbrev pub byte_bytes : ℕ → List ℕ
byte_bytes b = b ∷ []

abbrev pub IsAny : ℕ → Type 0
IsAny b = Unit {0}

pub no_byte : (bytes : List ℕ) → bytes ≡ [] → BeginsNone byte_bytes IsAny bytes
no_byte bytes empty = record { none = λ b more p e. let bad : [] ≡ b ∷ more = sym empty ∙ e in cc }

bytes_are_code : IsPrefixCode byte_bytes IsAny
bytes_are_code = record { one = λ a b x y p q e. one_byte a b x y e }

pub lengths_parts : HasParts (λ (l : Interval). l.lo) (λ (l : Interval). l.hi) byte_bytes byte_bytes IsAny IsAny (HasLengths Second)
lengths_parts = record {
  front = bytes_are_code;
  behind = bytes_are_code;
  legal = λ l p. (tt, tt);
  known = λ a b p q lo hi. λ i. between (lo i) (hi i);
}

pub lengths_are_code : (form : NotesForm) → IsPrefixCode (lengths_bytes form) (HasLengths form)
lengths_are_code First = record { one = λ a b x y p q e. (p ∙ sym q, e) }
lengths_are_code Second = two_parts lengths_parts

module _ (form : NotesForm) where
  pub kind_is_code : IsPrefixCode kind_bytes (IsKind form)
  kind_is_code = record { one = λ a b x y p q e. one_kind form a b x y p q e }

  pub kinds_are_code : IsPrefixCode kinds_bytes (IsKinds form)
  kinds_are_code = record { one = λ a b x y p q e. once kind_bytes (IsKind form) kind_is_code a b x y p.each q.each (p.count ∙ sym q.count) e }

  -- ---- states and notes

  pub state_parts : HasParts (λ (s : StateKinds). s.lengths) (λ (s : StateKinds). s.kinds) (lengths_bytes form) kinds_bytes
      (HasLengths form) (IsKinds form) (IsState form)
  state_parts = record {
    front = lengths_are_code form;
    behind = kinds_are_code;
    legal = λ s p. (p.lengths, p.kinds);
    known = λ a b p q lengths kinds. λ i. state_of (kinds i) (lengths i);
  }

  one_note : (a b : Option StateKinds) (x y : List ℕ) → IsNote form a → IsNote form b → note_bytes form a ++ x ≡ note_bytes form b ++ y → (a ≡ b) × (x ≡ y)
  one_note None None x y p q e = (refl, (one_byte 0 0 x y e).1)
  one_note None (Some b) x y p q e = absurd (other_byte 0 1 _ _ (λ h. omega (arith, h)) e)
  one_note (Some a) None x y p q e = absurd (other_byte 1 0 _ _ (λ h. omega (arith, h)) e)
  one_note (Some a) (Some b) x y p q e =
      let s = (two_parts state_parts).one a b x y p q (one_byte 1 1 (state_bytes form a ++ x) (state_bytes form b ++ y) e).1 in
      (ap Some s.0, s.1)

  pub note_is_code : IsPrefixCode (note_bytes form) (IsNote form)
  note_is_code = record { one = λ a b x y p q e. one_note a b x y p q e }

  pub are_counted : (n : List (Option StateKinds)) → IsNotes form n → AreCounted (note_bytes form) (IsNote form) note_is_code 4 n
  are_counted n p = (omega (arith, p.few), p.each)

  pub notes_are_code : IsPrefixCode (notes_bytes form) (IsNotes form)
  notes_are_code = record { one = λ a b x y p q e. (counted (note_bytes form) (IsNote form) note_is_code 4).one a b x y (are_counted a p) (are_counted b q) e }
