-- The least range of words of one kind: from pieces that are exactly those words, and from the hull of two.
use Rattle.std.proofs.Common.{◌≡◌, ℕ, ◌-◌, ◌<◌, ◌≤◌, ltb, leb, Option, Some, None, min, max, arith, subst, inl, inr, ◌⊎◌}
use Rattle.std.proofs.lemmas.Bool.{cond_both, cases_lt, ltb-true, ltb-false, leb-true, leb-false}
use Rattle.std.specs.Option.{option_and_then, MatchOption}
use Rattle.bq_range.specs.Interval.{Interval, IsIn, between, meet}
use Rattle.bq_range.specs.Narrow.{below, from, hull, IsLeastRange}

-- the words of r are those of P
pub record IsPiece (P : ℕ → Type 0) (r : Interval) : Type 0 where
  pub ordered : r.lo ≤ r.hi
  pub sound : (x : ℕ) → IsIn x r → P x
  pub complete : (x : ℕ) → P x → IsIn x r

-- there is no word of P, or it has a piece, or a least range
abbrev pub OnPiece : (ℕ → Type 0) → Option Interval → Type 0
OnPiece P o = MatchOption o ((x : ℕ) → P x → ⊥) (IsPiece P)

abbrev pub OnLeast : (ℕ → Type 0) → Option Interval → Type 0
OnLeast P o = MatchOption o ((x : ℕ) → P x → ⊥) (IsLeastRange P)

pub below_piece : (t : ℕ) (a : Interval) → a.lo ≤ a.hi → OnPiece (λ x. IsIn x a × (x < t)) (below t a)
below_piece t a p =
    cond_both (ltb a.lo t) (Some (between a.lo (min a.hi (t - 1)))) None (OnPiece (λ x. IsIn x a × (x < t)))
    (λ e. let q : a.lo < t = ltb-true a.lo t e in record {
      ordered = omega arith;
      sound = λ x h. (record { low = omega arith; high = omega arith }, omega arith);
      complete = λ x (h, k). record { low = omega arith; high = omega arith };
    })
    (λ e. let q : t ≤ a.lo = ltb-false a.lo t e in λ x (h, k). omega arith)

pub from_piece : (t : ℕ) (a : Interval) → a.lo ≤ a.hi → OnPiece (λ x. IsIn x a × (t ≤ x)) (from t a)
from_piece t a p =
    cond_both (leb t a.hi) (Some (between (max a.lo t) a.hi)) None (OnPiece (λ x. IsIn x a × (t ≤ x)))
    (λ e. let q : t ≤ a.hi = leb-true t a.hi e in record {
      ordered = omega arith;
      sound = λ x h. (record { low = omega arith; high = omega arith }, omega arith);
      complete = λ x (h, k). record { low = omega arith; high = omega arith };
    })
    (λ e. let q : a.hi < t = leb-false t a.hi e in λ x (h, k). omega arith)

pub meet_piece : (a b : Interval) → OnPiece (λ x. IsIn x a × IsIn x b) (meet a b)
meet_piece a b =
    cond_both (leb (max a.lo b.lo) (min a.hi b.hi)) (Some (between (max a.lo b.lo) (min a.hi b.hi))) None (OnPiece (λ x. IsIn x a × IsIn x b))
    (λ e. let q : max a.lo b.lo ≤ min a.hi b.hi = leb-true (max a.lo b.lo) (min a.hi b.hi) e in record {
      ordered = omega arith;
      sound = λ x h. (record { low = omega arith; high = omega arith }, record { low = omega arith; high = omega arith });
      complete = λ x (h, k). record { low = omega arith; high = omega arith };
    })
    (λ e. let q : min a.hi b.hi < max a.lo b.lo = leb-false (max a.lo b.lo) (min a.hi b.hi) e in λ x (h, k). omega arith)

-- ---- the same words under another description

pub piece_like : (P Q : ℕ → Type 0) (o : Option Interval) → ((x : ℕ) → P x → Q x) → ((x : ℕ) → Q x → P x) → OnPiece P o → OnPiece Q o
piece_like P Q None f g n = λ x q. n x (g x q)
piece_like P Q (Some r) f g i = record { ordered = i.ordered; sound = λ x h. f x (i.sound x h); complete = λ x q. i.complete x (g x q) }

pub least_like : (P Q : ℕ → Type 0) (o : Option Interval) → ((x : ℕ) → P x → Q x) → ((x : ℕ) → Q x → P x) → OnLeast P o → OnLeast Q o
least_like P Q None f g n = λ x q. n x (g x q)
least_like P Q (Some r) f g i = record { lo = f r.lo i.lo; hi = f r.hi i.hi; each = λ x q. i.each x (g x q) }

-- ---- one after another, and both together

pub then_piece : (P Q : ℕ → Type 0) (f : Interval → Option Interval) (o : Option Interval) → OnPiece P o
    → ((r : Interval) → r.lo ≤ r.hi → OnPiece (λ x. IsIn x r × Q x) (f r)) → OnPiece (λ x. P x × Q x) (option_and_then f o)
then_piece P Q f None n h = λ x (p, q). n x p
then_piece P Q f (Some r) i h =
    piece_like (λ x. IsIn x r × Q x) (λ x. P x × Q x) (f r) (λ x (k, q). (i.sound x k, q)) (λ x (p, q). (i.complete x p, q)) (h r i.ordered)

ends : (P : ℕ → Type 0) (r : Interval) → IsPiece P r → P r.lo × P r.hi
ends P r i = let k : r.lo ≤ r.hi = i.ordered in (i.sound r.lo (record { low = omega arith; high = k }), i.sound r.hi (record { low = k; high = omega arith }))

pub piece_least : (P : ℕ → Type 0) (o : Option Interval) → OnPiece P o → OnLeast P o
piece_least P None n = n
piece_least P (Some r) i = let (l, h) = ends P r i in record { lo = l; hi = h; each = i.complete }

pub hull_least : (P Q : ℕ → Type 0) (o s : Option Interval) → OnPiece P o → OnPiece Q s → OnLeast (λ x. P x ⊎ Q x) (hull o s)
hull_least P Q None None m n = λ x h. elim h [ inl p ↦ m x p | inr q ↦ n x q ]
hull_least P Q None (Some s) m j =
    let (l, h) = ends Q s j in
    record { lo = inr l; hi = inr h; each = λ x k. elim k [ inl p ↦ absurd (m x p) | inr q ↦ j.complete x q ] }
hull_least P Q (Some r) None i n =
    let (l, h) = ends P r i in
    record { lo = inl l; hi = inl h; each = λ x k. elim k [ inl p ↦ i.complete x p | inr q ↦ absurd (n x q) ] }
hull_least P Q (Some r) (Some s) i j =
    let (pl, ph) = ends P r i in
    let (ql, qh) = ends Q s j in
    let U : ℕ → Type 0 = λ x. P x ⊎ Q x in
    record {
      lo = elim (cases_lt r.lo s.lo) [
        | inl k ↦ let e : r.lo ≡ min r.lo s.lo = omega arith in subst U e (inl pl)
        | inr k ↦ let e : s.lo ≡ min r.lo s.lo = omega arith in subst U e (inr ql)
      ];
      hi = elim (cases_lt r.hi s.hi) [
        | inl k ↦ let e : s.hi ≡ max r.hi s.hi = omega arith in subst U e (inr qh)
        | inr k ↦ let e : r.hi ≡ max r.hi s.hi = omega arith in subst U e (inl ph)
      ];
      each = λ x k. elim k [
        | inl p ↦ let m : IsIn x r = i.complete x p in record { low = omega arith; high = omega arith }
        | inr q ↦ let m : IsIn x s = j.complete x q in record { low = omega arith; high = omega arith }
      ];
    }
