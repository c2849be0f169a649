-- Both operands of a branch, on either edge.
use Rattle.std.proofs.Common.{◌≡◌, ℕ, Bool, true, false, cond, eqb, Option, Some, None, arith, inl, inr, ◌⊎◌, ◌&&◌, refl, sym, ◌∙◌, ap, subst}
use Rattle.std.proofs.lemmas.Bool.{cond_both, eqb-true, and_parts, not-true, true≢false}
use Rattle.std.proofs.Math.Bool.{not-not}
use Rattle.std.proofs.lemmas.Nat.{and_comm}
use Rattle.std.specs.Option.{option_and_then, IsSomeAnd, IfSome}
use Rattle.std.specs.Prelude.{not}
use Rattle.bq_word.specs.Word.{bits_of, low, signed, relates}
use Rattle.bq_word.specs.declared.Width.{Width}
use Rattle.bq_word.specs.declared.Relation.{Relation}
use Rattle.bq_word.specs.declared.Relation.TheVariants.{Equal, NotEqual, CommonBit, Less, LessOrEqual, Greater, GreaterOrEqual}
use Rattle.bq_word.specs.declared.Relation.TheVariants.{SignedLess, SignedLessOrEqual, SignedGreater, SignedGreaterOrEqual}
use Rattle.bq_range.specs.Interval.{Interval, IsIn, Within, is_single}
use Rattle.bq_range.specs.Narrow.{narrowed_to, opposite, converse, narrowed_by, is_same, by_common_bit, by_opposite, IsLeft, IsRight, IsLeastRange, IsNarrowing}
use Rattle.bq_range.proofs.Pieces.{OnLeast, least_like}
use Rattle.bq_range.proofs.Edges.{AreRanges, turned, relation_least, eqb_turned, leb_not, le_z_not}

-- a relation asked from the other side
converse_is : (w : ℕ) (relation : Relation) (x y : ℕ) → relates w (converse relation) y x ≡ relates w relation x y
converse_is w Equal x y = eqb_turned (low w y) (low w x)
converse_is w NotEqual x y = ap not (eqb_turned (low w y) (low w x))
converse_is w CommonBit x y = ap (λ (n : ℕ). not (eqb n 0)) (and_comm (low w y) (low w x))
converse_is w relation x y = refl

uncommon : (relation : Relation) → (relation ≡ CommonBit → ⊥) → converse relation ≡ CommonBit → ⊥
uncommon CommonBit n e = n refl
uncommon relation n e = cc

-- the least ranges of the two sides, where each is there exactly where two words stand so
joined : (S : ℕ → ℕ → Type 0) (a b : Interval) (l r : Option Interval) → OnLeast (IsLeft S a b) l → OnLeast (IsRight S a b) r
    → IsNarrowing S a b (option_and_then (λ (u : Interval). option_and_then (λ (v : Interval). Some (u, v)) r) l)
joined S a b None r m n = λ x y h k s. m x (h, (y, k, s))
joined S a b (Some u) None m n = λ x y h k s. n y (k, (x, h, s))
joined S a b (Some u) (Some v) m n = (m, n)

-- the same words stand so
narrowing_like : (S T : ℕ → ℕ → Type 0) (a b : Interval) (o : Option (Interval × Interval)) → ((x y : ℕ) → S x y → T x y)
    → ((x y : ℕ) → T x y → S x y) → IsNarrowing S a b o → IsNarrowing T a b o
narrowing_like S T a b None f g n = λ x y h k t. n x y h k (g x y t)
narrowing_like S T a b (Some p) f g n = (
  least_like (IsLeft S a b) (IsLeft T a b) (Some p.0)
      (λ x (k, u). let (y, l, s) = u in (k, (y, l, f x y s)))
      (λ x (k, u). let (y, l, t) = u in (k, (y, l, g x y t))) n.0,
  least_like (IsRight S a b) (IsRight T a b) (Some p.1)
      (λ y (k, u). let (x, l, s) = u in (k, (x, l, f x y s)))
      (λ y (k, u). let (x, l, t) = u in (k, (x, l, g x y t))) n.1,
)

-- the words for which a relation's test answers so
abbrev pub Stands : ℕ → Relation → Bool → ℕ → ℕ → Type 0
Stands w relation taken x y = relates w relation x y ≡ taken

-- what an edge leaves, where both ranges are of the width
abbrev pub edge : ℕ → Relation → Bool → Interval → Interval → Option (Interval × Interval)
edge w relation taken a b = by_opposite w relation (opposite relation) taken a b

abbrev pub HoldBoth : ℕ → ℕ → Option (Interval × Interval) → Type 0
HoldBoth x y o = IsSomeAnd o (λ p. IsIn x p.0 × IsIn y p.1)

abbrev pub LieInside : Interval → Interval → Option (Interval × Interval) → Type 0
LieInside a b o = IfSome o (λ p. Within p.0 a × Within p.1 b)

-- ---- the edge not taken

-- `not` of a test that is itself one
not_back : (b c : Bool) → b ≡ not c → c ≡ not b
not_back b c e = sym (not-not c) ∙ ap not (sym e)

module _ (width : Width) (a b : Interval) (r : AreRanges (bits_of width) a b) where
  both : (relation : Relation) → (relation ≡ CommonBit → ⊥) → IsNarrowing (Stands (bits_of width) relation true) a b (narrowed_by (bits_of width) relation a b)
  both relation n =
      let w = bits_of width in
      joined (Stands w relation true) a b (narrowed_to w relation a b) (narrowed_to w (converse relation) b a)
      (relation_least width a b r relation n)
      (least_like (IsLeft (Stands w (converse relation) true) b a) (IsRight (Stands w relation true) a b) (narrowed_to w (converse relation) b a)
      (λ y (k, u). let (x, h, s) = u in (k, (x, h, sym (converse_is w relation x y) ∙ s)))
      (λ y (k, u). let (x, h, s) = u in (k, (x, h, converse_is w relation x y ∙ s)))
      (relation_least width b a (turned w a b r) (converse relation) (uncommon relation n)))

  -- where the one holds the other does not
  edges : (relation other : Relation) (taken : Bool) → (relation ≡ CommonBit → ⊥) → (other ≡ CommonBit → ⊥)
      → ((x y : ℕ) → relates (bits_of width) other x y ≡ not (relates (bits_of width) relation x y))
      → IsNarrowing (Stands (bits_of width) relation taken) a b (narrowed_by (bits_of width) (cond taken relation other) a b)
  edges relation other true n m e = both relation n
  edges relation other false n m e =
      narrowing_like (Stands (bits_of width) other true) (Stands (bits_of width) relation false) a b (narrowed_by (bits_of width) other a b)
      (λ x y s. not-true _ (sym (e x y) ∙ s)) (λ x y s. e x y ∙ ap not s) (both other m)

  no_greater : (x y : ℕ) → relates (bits_of width) SignedLessOrEqual x y ≡ not (relates (bits_of width) SignedGreater x y)
  no_greater x y = le_z_not (signed (bits_of width) x) (signed (bits_of width) y)

  pub edge_narrows : (relation : Relation) (taken : Bool) → (relation ≡ CommonBit → ⊥)
      → IsNarrowing (Stands (bits_of width) relation taken) a b (edge (bits_of width) relation taken a b)
  edge_narrows Equal taken n = edges Equal NotEqual taken n (λ e. cc) (λ x y. refl)
  edge_narrows NotEqual taken n = edges NotEqual Equal taken n (λ e. cc) (λ x y. sym (not-not (eqb (low (bits_of width) x) (low (bits_of width) y))))
  edge_narrows Less taken n = edges Less GreaterOrEqual taken n (λ e. cc) (λ x y. leb_not _ _)
  edge_narrows LessOrEqual taken n = edges LessOrEqual Greater taken n (λ e. cc) (λ x y. not_back _ _ (leb_not _ _))
  edge_narrows Greater taken n = edges Greater LessOrEqual taken n (λ e. cc) (λ x y. leb_not _ _)
  edge_narrows GreaterOrEqual taken n = edges GreaterOrEqual Less taken n (λ e. cc) (λ x y. not_back _ _ (leb_not _ _))
  edge_narrows SignedLess taken n = edges SignedLess SignedGreaterOrEqual taken n (λ e. cc) (λ x y. no_greater y x)
  edge_narrows SignedLessOrEqual taken n = edges SignedLessOrEqual SignedGreater taken n (λ e. cc) (λ x y. not_back _ _ (no_greater x y))
  edge_narrows SignedGreater taken n = edges SignedGreater SignedLessOrEqual taken n (λ e. cc) no_greater
  edge_narrows SignedGreaterOrEqual taken n = edges SignedGreaterOrEqual SignedLess taken n (λ e. cc) (λ x y. not_back _ _ (no_greater y x))
  edge_narrows CommonBit taken n = absurd (n refl)

-- ---- what follows of it

pub narrowing_covers : (S : ℕ → ℕ → Type 0) (a b : Interval) (o : Option (Interval × Interval)) → IsNarrowing S a b o → (x y : ℕ) → IsIn x a
    → IsIn y b → S x y → HoldBoth x y o
narrowing_covers S a b None n x y h k s = n x y h k s
narrowing_covers S a b (Some p) n x y h k s = (n.0.each x (h, (y, k, s)), n.1.each y (k, (x, h, s)))

inside : (P : ℕ → Type 0) (a r : Interval) → ((x : ℕ) → P x → IsIn x a) → IsLeastRange P r → Within r a
inside P a r f i =
    let l : IsIn r.lo a = f r.lo i.lo in
    let h : IsIn r.hi a = f r.hi i.hi in
    record { low = l.low; high = h.high }

pub narrowing_inside : (S : ℕ → ℕ → Type 0) (a b : Interval) (o : Option (Interval × Interval)) → IsNarrowing S a b o → LieInside a b o
narrowing_inside S a b None n = tt
narrowing_inside S a b (Some p) n = (inside (IsLeft S a b) a p.0 (λ x (k, _). k) n.0, inside (IsRight S a b) b p.1 (λ y (k, _). k) n.1)

-- ---- common bits

same_as : (taken t : Bool) → t ≡ taken → is_same taken t ≡ true
same_as true t e = e
same_as false t e = ap not e

-- two single words of which the edge cannot be taken
abbrev pub decided : ℕ → Bool → Interval → Interval → Bool
decided w taken a b = is_single a && is_single b && not (is_same taken (relates w CommonBit a.lo b.lo))

common_covers : (w : ℕ) (taken : Bool) (a b : Interval) (x y : ℕ) → IsIn x a → IsIn y b → relates w CommonBit x y ≡ taken
    → HoldBoth x y (by_common_bit w taken a b)
common_covers w taken a b x y h k s =
    cond_both (decided w taken a b) None (Some (a, b)) (HoldBoth x y)
    (λ e. let (u, v) = and_parts (is_single a && is_single b) (not (is_same taken (relates w CommonBit a.lo b.lo))) e in
    let (i, j) = and_parts (is_single a) (is_single b) u in
    let ea : a.lo ≡ a.hi = eqb-true a.lo a.hi i in
    let eb : b.lo ≡ b.hi = eqb-true b.lo b.hi j in
    let ex : x ≡ a.lo = omega arith in
    let ey : y ≡ b.lo = omega arith in
    let t : relates w CommonBit a.lo b.lo ≡ taken = rw (← ex, ← ey) s in
    true≢false (sym (same_as taken (relates w CommonBit a.lo b.lo) t) ∙ not-true (is_same taken (relates w CommonBit a.lo b.lo)) v))
    (λ _. (h, k))

common_inside : (w : ℕ) (taken : Bool) (a b : Interval) → LieInside a b (by_common_bit w taken a b)
common_inside w taken a b =
    cond_both (decided w taken a b) None (Some (a, b)) (LieInside a b) (λ _. tt)
    (λ _. (record { low = omega arith; high = omega arith }, record { low = omega arith; high = omega arith }))

pub is_common : (relation : Relation) → (relation ≡ CommonBit) ⊎ (relation ≡ CommonBit → ⊥)
is_common CommonBit = inl refl
is_common _ = inr (λ e. cc)

module _ (width : Width) (a b : Interval) (r : AreRanges (bits_of width) a b) where
  pub edge_covers : (relation : Relation) (taken : Bool) (x y : ℕ) → IsIn x a → IsIn y b → relates (bits_of width) relation x y ≡ taken
      → HoldBoth x y (edge (bits_of width) relation taken a b)
  edge_covers relation taken x y h k s =
      elim (is_common relation) [
        | inl e ↦ let P : Relation → Type 0 = λ q. relates (bits_of width) q x y ≡ taken → HoldBoth x y (edge (bits_of width) q taken a b) in
            subst P (sym e) (common_covers (bits_of width) taken a b x y h k) s
        | inr n ↦ narrowing_covers (Stands (bits_of width) relation taken) a b _ (edge_narrows width a b r relation taken n) x y h k s
      ]

  pub edge_inside : (relation : Relation) (taken : Bool) → LieInside a b (edge (bits_of width) relation taken a b)
  edge_inside relation taken =
      elim (is_common relation) [
        | inl e ↦ subst (λ q. LieInside a b (edge (bits_of width) q taken a b)) (sym e) (common_inside (bits_of width) taken a b)
        | inr n ↦ narrowing_inside (Stands (bits_of width) relation taken) a b _ (edge_narrows width a b r relation taken n)
      ]
