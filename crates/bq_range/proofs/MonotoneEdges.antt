-- Smaller operands leave less on each edge of a branch.
use Rattle.std.proofs.Common.{◌≡◌, ℕ, ◌^◌, ◌<◌, Bool, true, ltb, Option, Some, None, arith, sym, subst, inl, inr, ◌&&◌}
use Rattle.std.specs.Prelude.{not}
use Rattle.std.proofs.lemmas.Bool.{cond_both, ltb-true, lt-ltb, and_parts, eqb-true, eq-eqb}
use Rattle.bq_word.specs.Word.{bits_of, relates}
use Rattle.bq_word.specs.declared.Width.{Width}
use Rattle.bq_word.specs.declared.Relation.{Relation}
use Rattle.bq_word.specs.declared.Relation.TheVariants.{CommonBit}
use Rattle.bq_range.specs.Interval.{Interval, IsInterval, IsIn, Within, is_single}
use Rattle.bq_range.specs.Narrow.{is_same, by_common_bit, branched, IsLeft, IsRight, IsLeastRange, IsNarrowing}
use Rattle.bq_range.specs.Monotone.{IsPart, LeavesLess}
use Rattle.bq_range.proofs.Edges.{AreRanges}
use Rattle.bq_range.proofs.Held.{itself}
use Rattle.bq_range.proofs.Both.{Stands, edge, LieInside, decided, edge_narrows, edge_inside, is_common}

-- the least range of words of a, and the least range of more words
least_part : (P Q : ℕ → Type 0) (a p q : Interval) → IsInterval a → ((x : ℕ) → P x → IsIn x a) → ((x : ℕ) → P x → Q x) → IsLeastRange P p
    → IsLeastRange Q q → IsPart p q
least_part P Q a p q i g f h k =
    let l = k.each p.lo (f p.lo h.lo) in
    let u = k.each p.hi (f p.hi h.hi) in
    let below = g p.hi h.hi in record {
      words = record { ordered = (h.each p.hi h.hi).low; words = omega (arith, below.high, i.words) };
      within = record { low = l.low; high = u.high };
    }

in_larger : (a c : Interval) (x : ℕ) → Within a c → IsIn x a → IsIn x c
in_larger a c x l h = record { low = omega (arith, l.low, h.low); high = omega (arith, l.high, h.high) }

-- a larger pair that is left as it is
less_than_all : (a b c d : Interval) (o : Option (Interval × Interval)) → Within a c → Within b d → LeavesLess o (Some (a, b)) → LeavesLess o (Some (c, d))
less_than_all a b c d None l r h = tt
less_than_all a b c d (Some p) l r h = (more a c p.0 l h.0, more b d p.1 r h.1)
  where
    more : (a c p : Interval) → Within a c → IsPart p a → IsPart p c
    more a c p l h = record {
      words = h.words;
      within = record { low = omega (arith, h.within.low, l.low); high = omega (arith, h.within.high, l.high) };
    }

-- what lies inside a pair leaves less than the pair, where it leaves less than itself: it is not empty
less_than_pair : (a b : Interval) (o : Option (Interval × Interval)) → LieInside a b o → LeavesLess o o → LeavesLess o (Some (a, b))
less_than_pair a b None h k = tt
less_than_pair a b (Some p) h k = (record { words = k.0.words; within = h.0 }, record { words = k.1.words; within = h.1 })

all_of : (a : Interval) → IsInterval a → IsPart a a
all_of a h = record { words = h; within = itself a }

-- ---- two operands and a part of each

module _ (a b c d : Interval) (h : IsPart a c) (k : IsPart b d) where
  open h use {words as aw, within as l}
  open k use {words as bw, within as r}

  narrowing_less : (S : ℕ → ℕ → Type 0) (o m : Option (Interval × Interval)) → IsNarrowing S a b o → IsNarrowing S c d m → LeavesLess o m
  narrowing_less S None m s t = tt
  narrowing_less S (Some p) None s t =
      let x = s.0.lo in
      let y = x.1 in
      absurd (t p.0.lo y.0 (in_larger a c p.0.lo l x.0) (in_larger b d y.0 r y.1) y.2)
  narrowing_less S (Some p) (Some q) s t = (
    least_part (IsLeft S a b) (IsLeft S c d) a p.0 q.0 aw (λ x (i, _). i)
        (λ x (i, (y, j, u)). (in_larger a c x l i, (y, in_larger b d y r j, u))) s.0 t.0,
    least_part (IsRight S a b) (IsRight S c d) b p.1 q.1 bw (λ y (j, _). j)
        (λ y (j, (x, i, u)). (in_larger b d y r j, (x, in_larger a c x l i, u))) s.1 t.1,
  )

  common_less : (w : ℕ) (taken : Bool) → LeavesLess (by_common_bit w taken a b) (by_common_bit w taken c d)
  common_less w taken =
      cond_both (decided w taken c d) None (Some (c, d)) (LeavesLess (by_common_bit w taken a b))
      (λ t. let (i, j) = and_parts (is_single c && is_single d) (not (is_same taken (relates w CommonBit c.lo d.lo))) t in
      let (s, v) = and_parts (is_single c) (is_single d) i in
      let ec = eqb-true c.lo c.hi s in
      let ed = eqb-true d.lo d.hi v in
      let one : a.lo ≡ c.lo = omega (arith, l.low, l.high, aw.ordered) in
      let two : b.lo ≡ d.lo = omega (arith, r.low, r.high, bw.ordered) in
      let sa : is_single a ≡ true = eq-eqb a.lo a.hi (omega (arith, l.low, l.high, aw.ordered)) in
      let sb : is_single b ≡ true = eq-eqb b.lo b.hi (omega (arith, r.low, r.high, bw.ordered)) in
      rw (sa, sb, one, two, j) tt)
      (λ _. cond_both (decided w taken a b) None (Some (a, b)) (λ m. LeavesLess m (Some (c, d))) (λ _. tt) (λ _. (h, k)))

  opposite_less : (width : Width) (relation : Relation) (taken : Bool) → AreRanges (bits_of width) a b → AreRanges (bits_of width) c d
      → LeavesLess (edge (bits_of width) relation taken a b) (edge (bits_of width) relation taken c d)
  opposite_less width relation taken s t = elim (is_common relation) [
    | inl e ↦
        subst (λ q. LeavesLess (edge (bits_of width) q taken a b) (edge (bits_of width) q taken c d)) (sym e) (common_less (bits_of width) taken)
    | inr n ↦
        narrowing_less (Stands (bits_of width) relation taken) _ _ (edge_narrows width a b s relation taken n) (edge_narrows width c d t relation taken n)
  ]

-- ---- each edge

ranges : (w : ℕ) (a b : Interval) → IsInterval a → IsInterval b → a.hi < 2 ^ w → b.hi < 2 ^ w → AreRanges w a b
ranges w a b o u h k = record { a_ordered = o.ordered; b_ordered = u.ordered; a_fits = h; b_fits = k }

abbrev both : ℕ → Interval → Interval → Bool
both w a b = ltb a.hi (2 ^ w) && ltb b.hi (2 ^ w)

-- what an edge leaves lies inside the operands
pub branched_inside : (width : Width) (relation : Relation) (taken : Bool) (a b : Interval) → IsInterval a → IsInterval b
    → LeavesLess (branched (bits_of width) relation taken a b) (Some (a, b))
branched_inside width relation taken a b o u =
    let w = bits_of width in
    cond_both (both w a b) (edge w relation taken a b) (Some (a, b)) (λ m. LeavesLess m (Some (a, b)))
    (λ t. let (i, j) = and_parts (ltb a.hi (2 ^ w)) (ltb b.hi (2 ^ w)) t in
    let s = ranges w a b o u (ltb-true a.hi (2 ^ w) i) (ltb-true b.hi (2 ^ w) j) in
    less_than_pair a b _ (edge_inside width a b s relation taken) (opposite_less a b a b (all_of a o) (all_of b u) width relation taken s s))
    (λ _. (all_of a o, all_of b u))

-- smaller operands leave less
pub branched_less : (width : Width) (relation : Relation) (taken : Bool) (a b c d : Interval) → IsPart a c → IsPart b d
    → LeavesLess (branched (bits_of width) relation taken a b) (branched (bits_of width) relation taken c d)
branched_less width relation taken a b c d h k =
    let w = bits_of width in
    cond_both (both w c d) (edge w relation taken c d) (Some (c, d)) (LeavesLess (branched w relation taken a b))
    (λ t. let (i, j) = and_parts (ltb c.hi (2 ^ w)) (ltb d.hi (2 ^ w)) t in
    let ci : c.hi < 2 ^ w = ltb-true c.hi (2 ^ w) i in
    let dj : d.hi < 2 ^ w = ltb-true d.hi (2 ^ w) j in
    let ai : a.hi < 2 ^ w = omega (arith, l.high, ci) in
    let bj : b.hi < 2 ^ w = omega (arith, r.high, dj) in
    rw (lt-ltb a.hi (2 ^ w) ai, lt-ltb b.hi (2 ^ w) bj)
    (opposite_less a b c d h k width relation taken (ranges w a b h.words k.words ai bj) (record {
      a_ordered = omega (arith, l.low, l.high, h.words.ordered);
      b_ordered = omega (arith, r.low, r.high, k.words.ordered);
      a_fits = ci;
      b_fits = dj;
    })))
    (λ _. less_than_all a b c d (branched w relation taken a b) l r (branched_inside width relation taken a b h.words k.words))
  where
    open h use {within as l}
    open k use {within as r}
