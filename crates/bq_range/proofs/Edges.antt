-- What a branch leaves of its operands is the least range of the words that can be there.
use Rattle.std.proofs.Common.{◌≡◌, ℕ, ◌+◌, ◌-◌, ◌%◌, ◌^◌, ◌<◌, ◌≤◌, Bool, true, cond, eqb, ltb, leb, Option, Some, arith, inl, inr, ◌⊎◌, refl, sym, ◌∙◌, ap}
use Rattle.std.proofs.lemmas.Bool.{cond_both, cases_lt, cases_eq, not-true}
use Rattle.std.proofs.lemmas.Bool.{ltb-true, ltb-false, eqb-true, eqb-false, eq-eqb, ne_eqb, lt-ltb, le-ltb, le-leb, lt-leb}
use Rattle.std.proofs.Math.Nat.{mod-eq_of_lt}
use Rattle.std.specs.Prelude.{ℤ, pos, negsuc, not}
use Rattle.std.specs.Int.Signed.{lt_z, le_z}
use Rattle.bq_word.specs.Word.{bits_of, low, signed, relates}
use Rattle.bq_word.specs.declared.Width.{Width}
use Rattle.bq_word.specs.declared.Width.TheVariants.{W32, W64}
use Rattle.bq_word.specs.declared.Relation.{Relation}
use Rattle.bq_word.specs.declared.Relation.TheVariants.{Equal, NotEqual, CommonBit, Less, LessOrEqual, Greater, GreaterOrEqual}
use Rattle.bq_word.specs.declared.Relation.TheVariants.{SignedLess, SignedLessOrEqual, SignedGreater, SignedGreaterOrEqual}
use Rattle.bq_range.specs.Interval.{Interval, IsIn, meet, is_single}
use Rattle.bq_range.specs.Narrow.{below, from, hull, first, last, ahead, behind, sign, narrowed_to, IsLeft}
use Rattle.bq_range.proofs.Pieces.{OnLeast, below_piece, from_piece, meet_piece, piece_least, hull_least, least_like}
use Rattle.bq_range.proofs.Places.{place, place_low, place_high, InOrder, before_some, after_some}

-- ---- tests

pub leb_not : (a b : ℕ) → leb a b ≡ not (ltb b a)
leb_not a b = elim (cases_lt b a) [ inl k ↦ rw (lt-leb a b k, lt-ltb b a k) refl | inr k ↦ rw (le-leb a b k, le-ltb b a k) refl ]

pub le_z_not : (a b : ℤ) → le_z a b ≡ not (lt_z b a)
le_z_not (pos a) (pos b) = leb_not a b
le_z_not (pos a) (negsuc b) = refl
le_z_not (negsuc a) (pos b) = refl
le_z_not (negsuc a) (negsuc b) = leb_not b a

pub eqb_turned : (a b : ℕ) → eqb a b ≡ eqb b a
eqb_turned a b = elim (cases_eq a b) [ inl k ↦ eq-eqb a b k ∙ sym (eq-eqb b a (sym k)) | inr k ↦ ne_eqb a b k ∙ sym (ne_eqb b a (λ e. k (sym e))) ]

ltb_like : (a b c d : ℕ) → (a < b → c < d) → (b ≤ a → d ≤ c) → ltb a b ≡ ltb c d
ltb_like a b c d f g = elim (cases_lt a b) [ inl k ↦ lt-ltb a b k ∙ sym (lt-ltb c d (f k)) | inr k ↦ le-ltb a b k ∙ sym (le-ltb c d (g k)) ]

-- ---- the orders of words

twice : (width : Width) → sign (bits_of width) + sign (bits_of width) ≡ 2 ^ bits_of width
twice W32 = refl
twice W64 = refl

with_sign : (width : Width) (x : ℕ) → x < 2 ^ bits_of width → InOrder (sign (bits_of width)) x
with_sign width x k = inr (omega (arith, twice width))

place-zero : (x : ℕ) → place 0 x ≡ x
place-zero x = place_high 0 x (omega arith) ∙ (omega arith)

lt_own : (w x y : ℕ) → x < 2 ^ w → y < 2 ^ w → ltb (low w x) (low w y) ≡ ltb (place 0 x) (place 0 y)
lt_own w x y k l =
    let ex : x % 2 ^ w ≡ x = mod-eq_of_lt k in
    let ey : y % 2 ^ w ≡ y = mod-eq_of_lt l in
    rw (ex, ey, place-zero x, place-zero y) refl

signed_low : (w x : ℕ) → x < 2 ^ w → x < sign w → signed w x ≡ pos x
signed_low w x k l = let ex : x % 2 ^ w ≡ x = mod-eq_of_lt k in rw (ex, lt-ltb x (sign w) l) refl

signed_high : (w x : ℕ) → x < 2 ^ w → sign w ≤ x → signed w x ≡ negsuc (2 ^ w - 1 - x)
signed_high w x k l = let ex : x % 2 ^ w ≡ x = mod-eq_of_lt k in rw (ex, le-ltb x (sign w) l) refl

lt_signed : (width : Width) (x y : ℕ) → x < 2 ^ bits_of width → y < 2 ^ bits_of width
    → lt_z (signed (bits_of width) x) (signed (bits_of width) y) ≡ ltb (place (sign (bits_of width)) x) (place (sign (bits_of width)) y)
lt_signed width x y k l =
    let w : ℕ = bits_of width in
    let h : ℕ = sign (bits_of width) in
    let whole : h + h ≡ 2 ^ bits_of width = twice width in
    elim (cases_lt x h) [
      | inl m ↦ elim (cases_lt y h) [
        | inl n ↦ rw (signed_low w x k m, signed_low w y l n, place_low h x m, place_low h y n)
            (ltb_like x y (x + h) (y + h) (λ u. omega arith) (λ u. omega arith))
        | inr n ↦ rw (signed_low w x k m, signed_high w y l n, place_low h x m, place_high h y n) (sym (le-ltb (x + h) (y - h) (omega arith)))
      ]
      | inr m ↦ elim (cases_lt y h) [
        | inl n ↦ rw (signed_high w x k m, signed_low w y l n, place_high h x m, place_low h y n) (sym (lt-ltb (x - h) (y + h) (omega arith)))
        | inr n ↦ rw (signed_high w x k m, signed_high w y l n, place_high h x m, place_high h y n)
            (ltb_like (2 ^ bits_of width - 1 - y) (2 ^ bits_of width - 1 - x) (x - h) (y - h) (λ u. omega arith) (λ u. omega arith))
      ]
    ]

-- ---- a test of places gives the words that come before, or after, some word of the other range

some_like : (F G : ℕ → ℕ → Type 0) (a b : Interval) (o : Option Interval) → ((x y : ℕ) → IsIn x a → IsIn y b → F x y → G x y)
    → ((x y : ℕ) → IsIn x a → IsIn y b → G x y → F x y) → OnLeast (IsLeft F a b) o → OnLeast (IsLeft G a b) o
some_like F G a b o f g =
    least_like (IsLeft F a b) (IsLeft G a b) o
    (λ x (k, u). let (y, l, v) = u in (k, (y, l, f x y k l v)))
    (λ x (k, u). let (y, l, v) = u in (k, (y, l, g x y k l v)))

-- ---- each relation

-- the words of a at which a test with some word of b says yes
abbrev pub Passes : (ℕ → ℕ → Bool) → Interval → Interval → ℕ → Type 0
Passes T a b = IsLeft (λ x y. T x y ≡ true) a b

-- two ranges of words of a width
pub record AreRanges (w : ℕ) (a b : Interval) : Type 0 where
  pub a_ordered : a.lo ≤ a.hi
  pub b_ordered : b.lo ≤ b.hi
  pub a_fits : a.hi < 2 ^ w
  pub b_fits : b.hi < 2 ^ w

pub turned : (w : ℕ) (a b : Interval) → AreRanges w a b → AreRanges w b a
turned w a b r = record { a_ordered = r.b_ordered; b_ordered = r.a_ordered; a_fits = r.b_fits; b_fits = r.a_fits }

-- L tests which of two words of w bits comes first in the order that begins at h
record IsOrder (w h : ℕ) (L : ℕ → ℕ → Bool) : Type 0 where
  words : (x : ℕ) → x < 2 ^ w → InOrder h x
  test : (x y : ℕ) → x < 2 ^ w → y < 2 ^ w → L x y ≡ ltb (place h x) (place h y)

own_order : (w : ℕ) → IsOrder w 0 (λ x y. ltb (low w x) (low w y))
own_order w = record { words = λ x k. inl refl; test = lt_own w }

signed_order : (width : Width) → IsOrder (bits_of width) (sign (bits_of width)) (λ x y. lt_z (signed (bits_of width) x) (signed (bits_of width) y))
signed_order width = record { words = with_sign width; test = lt_signed width }

module _ (w h : ℕ) (L : ℕ → ℕ → Bool) (o : IsOrder w h L) (a b : Interval) (r : AreRanges w a b) where
  open r use {a_ordered, b_ordered, a_fits, b_fits}

  test : (x y : ℕ) → IsIn x a → IsIn y b → L x y ≡ ltb (place h x) (place h y)
  test x y k l = o.test x y (omega arith) (omega arith)

  test_back : (x y : ℕ) → IsIn x a → IsIn y b → L y x ≡ ltb (place h y) (place h x)
  test_back x y k l = o.test y x (omega arith) (omega arith)

  comes_before : OnLeast (Passes L a b) (ahead h 0 (last h b) a)
  comes_before =
      some_like (λ x y. place h x < place h y + 0) (λ x y. L x y ≡ true) a b (ahead h 0 (last h b) a)
      (λ x y k l v. test x y k l ∙ lt-ltb (place h x) (place h y) (omega arith))
      (λ x y k l v. let t : place h x < place h y = ltb-true _ _ (sym (test x y k l) ∙ v) in omega arith)
      (before_some h 0 a b a_ordered b_ordered (omega arith) (o.words a.hi a_fits) (o.words b.hi b_fits))

  comes_no_later : OnLeast (Passes (λ x y. not (L y x)) a b) (ahead h 1 (last h b) a)
  comes_no_later =
      some_like (λ x y. place h x < place h y + 1) (λ x y. not (L y x) ≡ true) a b (ahead h 1 (last h b) a)
      (λ x y k l v. ap not (test_back x y k l ∙ le-ltb (place h y) (place h x) (omega arith)))
      (λ x y k l v. let t : place h x ≤ place h y = ltb-false _ _ (sym (test_back x y k l) ∙ not-true (L y x) v) in omega arith)
      (before_some h 1 a b a_ordered b_ordered (omega arith) (o.words a.hi a_fits) (o.words b.hi b_fits))

  comes_after : OnLeast (Passes (λ x y. L y x) a b) (behind h 1 (first h b) a)
  comes_after =
      some_like (λ x y. place h y + 1 ≤ place h x) (λ x y. L y x ≡ true) a b (behind h 1 (first h b) a)
      (λ x y k l v. test_back x y k l ∙ lt-ltb (place h y) (place h x) (omega arith))
      (λ x y k l v. let t : place h y < place h x = ltb-true _ _ (sym (test_back x y k l) ∙ v) in omega arith)
      (after_some h 1 a b a_ordered b_ordered (omega arith) (o.words a.hi a_fits) (o.words b.hi b_fits))

  comes_no_earlier : OnLeast (Passes (λ x y. not (L x y)) a b) (behind h 0 (first h b) a)
  comes_no_earlier =
      some_like (λ x y. place h y + 0 ≤ place h x) (λ x y. not (L x y) ≡ true) a b (behind h 0 (first h b) a)
      (λ x y k l v. ap not (test x y k l ∙ le-ltb (place h x) (place h y) (omega arith)))
      (λ x y k l v. let t : place h y ≤ place h x = ltb-false _ _ (sym (test x y k l) ∙ not-true (L x y) v) in omega arith)
      (after_some h 0 a b a_ordered b_ordered (omega arith) (o.words a.hi a_fits) (o.words b.hi b_fits))

-- the same number
equal_words : (w x y : ℕ) → x < 2 ^ w → y < 2 ^ w → eqb (low w x) (low w y) ≡ eqb x y
equal_words w x y k l =
    let ex : x % 2 ^ w ≡ x = mod-eq_of_lt k in
    let ey : y % 2 ^ w ≡ y = mod-eq_of_lt l in
    rw (ex, ey) refl

equals : (w : ℕ) (a b : Interval) → AreRanges w a b → OnLeast (Passes (relates w Equal) a b) (meet a b)
equals w a b r =
    least_like (λ x. IsIn x a × IsIn x b) (Passes (relates w Equal) a b) (meet a b)
    (λ x (k, l). (k, (x, l, eq-eqb (low w x) (low w x) refl)))
    (λ x (k, u). let (y, l, v) = u in
    let fx : x < 2 ^ w = omega arith in
    let fy : y < 2 ^ w = omega arith in
    let e : x ≡ y = eqb-true x y (sym (equal_words w x y fx fy) ∙ v) in
    (k, record { low = omega arith; high = omega arith }))
    (piece_least (λ x. IsIn x a × IsIn x b) (meet a b) (meet_piece a b))

-- of two words one is another than x
other : (b : Interval) (x : ℕ) → b.lo ≤ b.hi → (b.lo ≡ b.hi → ⊥) → (y : ℕ) × IsIn y b × (x ≡ y → ⊥)
other b x p s =
    elim (cases_eq x b.lo) [
      | inl e ↦ (b.hi, record { low = p; high = omega arith }, λ f. s (sym e ∙ f))
      | inr e ↦ (b.lo, record { low = omega arith; high = p }, e)
    ]

differs : (w : ℕ) (a b : Interval) → AreRanges w a b
    → OnLeast (IsLeft (λ x y. (x ≡ y → ⊥)) a b) (cond (is_single b) (hull (below b.lo a) (from (b.lo + 1) a)) (Some a))
differs w a b r =
    cond_both (is_single b) (hull (below b.lo a) (from (b.lo + 1) a)) (Some a) (OnLeast (IsLeft (λ x y. (x ≡ y → ⊥)) a b))
    (λ t. let s : b.lo ≡ b.hi = eqb-true b.lo b.hi t in
    least_like (λ x. (IsIn x a × (x < b.lo)) ⊎ (IsIn x a × (b.lo + 1 ≤ x))) (IsLeft (λ x y. (x ≡ y → ⊥)) a b) _
    (λ x u. elim u [
      | inl v ↦ let (k, l) = v in (k, (b.lo, record { low = omega arith; high = omega arith }, λ e. omega arith))
      | inr v ↦ let (k, l) = v in (k, (b.lo, record { low = omega arith; high = omega arith }, λ e. omega arith))
    ])
    (λ x (k, u). let (y, l, v) = u in elim (cases_lt x b.lo) [
      | inl m ↦ inl (k, m)
      | inr m ↦ elim (cases_lt b.lo x) [
        | inl n ↦ inr (k, omega arith)
        | inr n ↦ let e : x ≡ y = omega arith in absurd (v e)
      ]
    ])
    (hull_least (λ x. IsIn x a × (x < b.lo)) (λ x. IsIn x a × (b.lo + 1 ≤ x)) _ _
    (below_piece b.lo a r.a_ordered) (from_piece (b.lo + 1) a r.a_ordered)))
    (λ t. let s : b.lo ≡ b.hi → ⊥ = eqb-false b.lo b.hi t in record {
      lo = (record { low = omega arith; high = r.a_ordered }, other b a.lo r.b_ordered s);
      hi = (record { low = r.a_ordered; high = omega arith }, other b a.hi r.b_ordered s);
      each = λ x (k, u). k;
    })

not_equals : (w : ℕ) (a b : Interval) → AreRanges w a b → OnLeast (Passes (relates w NotEqual) a b) (narrowed_to w NotEqual a b)
not_equals w a b r =
    some_like (λ x y. (x ≡ y → ⊥)) (λ x y. relates w NotEqual x y ≡ true) a b (narrowed_to w NotEqual a b)
    (λ x y k l v. rw (equal_words w x y (omega arith) (omega arith), ne_eqb x y v) refl)
    (λ x y k l v. eqb-false x y (sym (equal_words w x y (omega arith) (omega arith)) ∙ not-true (eqb (low w x) (low w y)) v))
    (differs w a b r)

-- tests that say the same
same_test : (F G : ℕ → ℕ → Bool) (a b : Interval) (o : Option Interval) → ((x y : ℕ) → G x y ≡ F x y) → OnLeast (Passes F a b) o → OnLeast (Passes G a b) o
same_test F G a b o e = some_like (λ x y. F x y ≡ true) (λ x y. G x y ≡ true) a b o (λ x y k l v. e x y ∙ v) (λ x y k l v. sym (e x y) ∙ v)

module _ (width : Width) (a b : Interval) (r : AreRanges (bits_of width) a b) where
  pub relation_least : (relation : Relation) → (relation ≡ CommonBit → ⊥)
      → OnLeast (Passes (relates (bits_of width) relation) a b) (narrowed_to (bits_of width) relation a b)
  relation_least Equal n = equals (bits_of width) a b r
  relation_least NotEqual n = not_equals (bits_of width) a b r
  relation_least Less n = comes_before (bits_of width) 0 _ (own_order (bits_of width)) a b r
  relation_least LessOrEqual n =
      same_test _ (relates (bits_of width) LessOrEqual) a b _ (λ x y. leb_not (low (bits_of width) x) (low (bits_of width) y))
      (comes_no_later (bits_of width) 0 _ (own_order (bits_of width)) a b r)
  relation_least Greater n = comes_after (bits_of width) 0 _ (own_order (bits_of width)) a b r
  relation_least GreaterOrEqual n =
      same_test _ (relates (bits_of width) GreaterOrEqual) a b _ (λ x y. leb_not (low (bits_of width) y) (low (bits_of width) x))
      (comes_no_earlier (bits_of width) 0 _ (own_order (bits_of width)) a b r)
  relation_least SignedLess n = comes_before (bits_of width) (sign (bits_of width)) _ (signed_order width) a b r
  relation_least SignedLessOrEqual n =
      same_test _ (relates (bits_of width) SignedLessOrEqual) a b _ (λ x y. le_z_not (signed (bits_of width) x) (signed (bits_of width) y))
      (comes_no_later (bits_of width) (sign (bits_of width)) _ (signed_order width) a b r)
  relation_least SignedGreater n = comes_after (bits_of width) (sign (bits_of width)) _ (signed_order width) a b r
  relation_least SignedGreaterOrEqual n =
      same_test _ (relates (bits_of width) SignedGreaterOrEqual) a b _ (λ x y. le_z_not (signed (bits_of width) y) (signed (bits_of width) x))
      (comes_no_earlier (bits_of width) (sign (bits_of width)) _ (signed_order width) a b r)
  relation_least CommonBit n = absurd (n refl)
