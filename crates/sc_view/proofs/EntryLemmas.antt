-- Entries in rising id order, among others.
use Rattle.std.proofs.Common.{◌≡◌, ℕ, ◌≤◌, ◌<◌, true, false, cond, nat_le, List, [], ◌∷◌}
use Rattle.std.proofs.Common.{◌++◌, Some, None, refl, sym, ap, subst, ◌∙◌, arith, T, Ordering}
use Rattle.std.proofs.lemmas.Bool.{cond_both, leb-true, leb-false, le-leb}
use Rattle.std.specs.declared.cmp.Ordering.TheVariants.{Less, Equal, Greater}
use Rattle.std.specs.Ordering.{nat_cmp, is_eq, is_lt}
use Rattle.std.specs.FinMap.Entries.{put, find, by_order, below_all, is_sorted, is_sorted-put}
use Rattle.std.specs.Cmp.{nat_cmp_total}
use Rattle.forms.proofs.Tests.{both, first, second}
use Rattle.forms.proofs.Maps.{less_from}
use Rattle.sc_chunk.proofs.EntryLemmas.{cmp_less, cmp_greater, cmp_equal, over_lower, find_none, find_later}
use Rattle.sc_view.specs.declared.view.Stored.{Stored}
use Rattle.sc_view.specs.Rows.{from, Over, Under, Rises}

-- the entries of a chunk, and the chunks of a row
abbrev pub Entries : Type 0
Entries = List (ℕ × Stored)

abbrev pub Row : Type 0
Row = List Entries

-- ---- the order

over_split : (x : ℕ) (es fs : Entries) → Over x (es ++ fs) → Over x es × Over x fs
over_split x [] fs o = (tt, o)
over_split x (e ∷ es) fs o = let rest = over_split x es fs o.1 in ((o.0, rest.0), rest.1)

pub rises_split : (es fs : Entries) → Rises (es ++ fs) → Rises es × Rises fs
rises_split [] fs r = (tt, r)
rises_split (e ∷ es) fs r = let rest = rises_split es fs r.1 in (((over_split e.0 es fs r.0).0, rest.0), rest.1)

-- entries before one with the id or a smaller one
pub under_before : (id : ℕ) (es : Entries) (f : ℕ × Stored) (fs : Entries) → Rises (es ++ f ∷ fs) → f.0 ≤ id → Under id es
under_before id [] f fs r h = tt
under_before id (e ∷ es) f fs r h = (omega (arith, (over_split e.0 es (f ∷ fs) r.0).1.0, h), under_before id es f fs r.1 h)

pub over_from : (id : ℕ) (f : ℕ × Stored) (fs : Entries) → Rises (f ∷ fs) → id < f.0 → Over id (f ∷ fs)
over_from id f fs r h = (h, over_lower id f.0 fs (omega (arith, h)) r.0)

below : (x : ℕ) (es : Entries) → Over x es → T (below_all nat_cmp x es)
below x [] o = tt
below x (e ∷ es) o = both _ _ (subst (λ r. T (is_lt r)) (sym (cmp_less x e.0 o.0)) tt) (below x es o.1)

pub sorted_from : (es : Entries) → Rises es → T (is_sorted nat_cmp es)
sorted_from [] r = tt
sorted_from (e ∷ es) r = both _ _ (below e.0 es r.0) (sorted_from es r.1)

above : (x : ℕ) (es : Entries) → T (below_all nat_cmp x es) → Over x es
above x [] h = tt
above x (e ∷ es) h = (less_from x e.0 (first _ _ h), above x es (second _ _ h))

pub rises_from : (es : Entries) → T (is_sorted nat_cmp es) → Rises es
rises_from [] h = tt
rises_from (e ∷ es) h = (above e.0 es (first _ _ h), rises_from es (second _ _ h))

-- ---- a put among the entries of which some are smaller and some larger

pub put_under : (id : ℕ) (x : Stored) (es fs : Entries) → Under id es → put nat_cmp id x (es ++ fs) ≡ es ++ put nat_cmp id x fs
put_under id x [] fs u = refl
put_under id x (e ∷ es) fs u =
    ap (λ o. by_order o ((id, x) ∷ e ∷ (es ++ fs)) ((e.0, x) ∷ (es ++ fs)) (e ∷ put nat_cmp id x (es ++ fs))) (cmp_greater id e.0 u.0)
    ∙ ap (λ r. e ∷ r) (put_under id x es fs u.1)

pub put_over : (id : ℕ) (x : Stored) (es fs : Entries) → Over id fs → put nat_cmp id x (es ++ fs) ≡ put nat_cmp id x es ++ fs
put_over id x [] [] o = refl
put_over id x [] (f ∷ fs) o = ap (λ r. by_order r ((id, x) ∷ f ∷ fs) ((f.0, x) ∷ fs) (f ∷ put nat_cmp id x fs)) (cmp_less id f.0 o.0)
put_over id x (e ∷ es) fs o =
    let in_order : Ordering → Entries → Entries = λ r gs. by_order r ((id, x) ∷ e ∷ gs) ((e.0, x) ∷ gs) (e ∷ put nat_cmp id x gs) in
    elim (nat_cmp id e.0) as (λ r. in_order r (es ++ fs) ≡ in_order r es ++ fs) [
      | Less ↦ refl
      | Equal ↦ refl
      | Greater ↦ ap (λ r. e ∷ r) (put_over id x es fs o)
    ]

pub put_within : (id : ℕ) (x : Stored) (es fs gs : Entries) → Under id es → Over id gs
    → put nat_cmp id x (es ++ (fs ++ gs)) ≡ es ++ (put nat_cmp id x fs ++ gs)
put_within id x es fs gs u o = put_under id x es (fs ++ gs) u ∙ ap (λ r. es ++ r) (put_over id x fs gs o)

find_under : (id : ℕ) (es fs : Entries) → Under id es → find nat_cmp id (es ++ fs) ≡ find nat_cmp id fs
find_under id [] fs u = refl
find_under id (e ∷ es) fs u = ap (λ r. cond (is_eq r) (Some e.1) (find nat_cmp id (es ++ fs))) (cmp_greater id e.0 u.0) ∙ find_under id es fs u.1

find_over : (id : ℕ) (es fs : Entries) → Over id fs → find nat_cmp id (es ++ fs) ≡ find nat_cmp id es
find_over id [] fs o = find_none id fs o
find_over id (e ∷ es) fs o = ap (λ r. cond (is_eq (nat_cmp id e.0)) (Some e.1) r) (find_over id es fs o)

pub find_within : (id : ℕ) (es fs gs : Entries) → Under id es → Over id gs → find nat_cmp id (es ++ (fs ++ gs)) ≡ find nat_cmp id fs
find_within id es fs gs u o = find_under id es (fs ++ gs) u ∙ find_over id fs gs o

-- ---- entries from an id on

pub find_from : (q id : ℕ) (es : Entries) → id ≤ q → find nat_cmp q (from id es) ≡ find nat_cmp q es
find_from q id [] h = refl
find_from q id (e ∷ es) h =
    cond_both (nat_le id e.0) (e ∷ es) (from id es) (λ fs. find nat_cmp q fs ≡ find nat_cmp q (e ∷ es)) (λ p. refl)
    (λ p. find_from q id es h ∙ sym (find_later q e es (omega (arith, leb-false id e.0 p, h))))

pub rises_onward : (id : ℕ) (es : Entries) → Rises es → Rises (from id es)
rises_onward id [] r = tt
rises_onward id (e ∷ es) r =
    elim (nat_le id e.0) as (λ b. Rises (cond b (e ∷ es) (from id es))) [ true ↦ r | false ↦ rises_onward id es r.1 ]

pub from_here : (id : ℕ) (e : ℕ × Stored) (es : Entries) → id ≤ e.0 → e ∷ es ≡ from id (e ∷ es)
from_here id e es h = sym (ap (λ b. cond b (e ∷ es) (from id es)) (le-leb id e.0 h))

pub from_later : (id : ℕ) (e : ℕ × Stored) (es : Entries) → e.0 < id → from id es ≡ from id (e ∷ es)
from_later id e es h =
    cond_both (nat_le id e.0) (e ∷ es) (from id es) (λ fs. from id es ≡ fs) (λ p. absurd (omega (arith, leb-true id e.0 p, h))) (λ p. refl)

pub find_over_head : (id : ℕ) (e : ℕ × Stored) (es : Entries) → Rises (e ∷ es) → id < e.0 → find nat_cmp id (e ∷ es) ≡ None
find_over_head id e es r h = find_none id (e ∷ es) (over_from id e es r h)

pub find_here : (id : ℕ) (e : ℕ × Stored) (es : Entries) → id ≡ e.0 → find nat_cmp id (e ∷ es) ≡ Some e.1
find_here id e es h = ap (λ r. cond (is_eq r) (Some e.1) (find nat_cmp id es)) (cmp_equal id e.0 h)

pub rises_put : (id : ℕ) (x : Stored) (es : Entries) → Rises es → Rises (put nat_cmp id x es)
rises_put id x es r = rises_from (put nat_cmp id x es) (is_sorted-put nat_cmp nat_cmp_total id x es (sorted_from es r))
