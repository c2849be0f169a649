-- How many ids two sets that share none have together, within a third.
use Rattle.std.proofs.Common.{◌≡◌, ℕ, zero, suc, ◌+◌, ◌-◌, ◌≤◌, Bool, true, false, not, ◌&&◌, ◌||◌, cond, List, [], ◌∷◌, refl, sym, ap, subst, ◌∙◌, arith}
use Rattle.std.proofs.lemmas.Bool.{false≢true}
use Rattle.std.specs.Ordering.{nat_cmp, eq_by_cmp}
use Rattle.std.specs.Cmp.{nat_cmp_total, eq_by_cmp_equiv, unsigned_tied, unsigned_Decides, first_so, second_so}
use Rattle.std.specs.List.{list_any}
use Rattle.std.specs.FinSet as set
use Rattle.sc_members.specs.Ids.{Ids, Has}

abbrev same_id : ℕ → ℕ → Bool
same_id = eq_by_cmp nat_cmp

-- ---- sets that are not empty

record HasOne (s : Ids) : Type 0 where
  id : ℕ
  has : Has s id

one-of : (s : Ids) (n : ℕ) (ks : List ℕ) → set.items s ≡ ks → set.len s ≡ suc n → HasOne s
one-of s n [] is many =
    let none : s ≡ set.empty =
    set.same_set nat_cmp_total set.nat_cmp-IsAntisymmetric s set.empty
    (λ q. set.contains-items s q ∙ ap (list_any (same_id q)) is ∙ sym (set.contains-empty nat_cmp q)) in
    absurd (omega (arith, many, ap set.len none, set.len-empty nat_cmp))
one-of s n (k ∷ ks) is many =
    let first : list_any (same_id k) (k ∷ ks) ≡ true = ap (λ b. b || list_any (same_id k) ks) ((eq_by_cmp_equiv nat_cmp_total).refl k) in
    record { id = k; has = set.contains-items s k ∙ ap (list_any (same_id k)) is ∙ first }

has-one : (s : Ids) (n : ℕ) → set.len s ≡ suc n → HasOne s
has-one s n many = one-of s n (set.items s) refl many

is-some : (s : Ids) (k n : ℕ) → Has s k → set.len s ≡ n → 1 ≤ n
is-some s k zero has none = absurd (false≢true (sym (set.contains-empty nat_cmp k) ∙ ap (λ (t : Ids). set.contains t k) (sym (set.empty_of_len s none)) ∙ has))
is-some s k (suc n) has many = omega (arith)

-- ---- an id is taken out

taken-len : (s : Ids) (k : ℕ) → Has s k → set.len s ≡ set.len (set.remove s k) + 1
taken-len s k has =
    let left : set.len (set.remove s k) ≡ set.len s - 1 = set.len-remove nat_cmp_total s k ∙ ap (λ b. cond b (set.len s - 1) (set.len s)) has in
    omega (arith, left, is-some s k (set.len s) has refl)

kept : (s : Ids) (k q : ℕ) → (same_id q k ≡ true → ⊥) → Has s q → Has (set.remove s k) q
kept s k q other has =
    let differs : same_id q k ≡ false =
    elim (same_id q k) as (λ b. (b ≡ true → ⊥) → b ≡ false) [ true ↦ (λ no. absurd (no refl)) | false ↦ (λ no. refl) ] other in
    set.contains-remove nat_cmp_total s k q ∙ ap (λ b. not b && set.contains s q) differs ∙ has

-- what is left was there, and is another
was-there : (s : Ids) (k q : ℕ) → Has (set.remove s k) q → Has s q
was-there s k q h = second_so (not (same_id q k)) _ (sym (set.contains-remove nat_cmp_total s k q) ∙ h)

is-other : (s : Ids) (k q : ℕ) → Has (set.remove s k) q → same_id q k ≡ true → ⊥
is-other s k q h same =
    let not-same : not (same_id q k) ≡ true = first_so (not (same_id q k)) _ (sym (set.contains-remove nat_cmp_total s k q) ∙ h) in
    false≢true (ap not (sym same) ∙ not-same)

-- ---- sets within another

abbrev pub IsWithin : Ids → Ids → Type 0
IsWithin s t = (q : ℕ) → Has s q → Has t q

within-len : (n : ℕ) (s t : Ids) → set.len s ≡ n → IsWithin s t → n ≤ set.len t
within-len zero s t many sub = omega (arith)
within-len (suc n) s t many sub =
    let one = has-one s n many in
    let k = one.id in
    let left : set.len (set.remove s k) ≡ n = omega (arith, many, taken-len s k one.has) in
    let less = within-len n (set.remove s k) (set.remove t k) left (λ q h. kept t k q (is-other s k q h) (sub q (was-there s k q h))) in
    omega (arith, less, taken-len t k (sub k one.has))

apart-len : (n : ℕ) (s t m : Ids) → set.len s ≡ n → IsWithin s m → IsWithin t m → ((q : ℕ) → Has s q → Has t q → ⊥) → n + set.len t ≤ set.len m
apart-len zero s t m many sub_s sub_t apart = omega (arith, within-len (set.len t) t m refl sub_t)
apart-len (suc n) s t m many sub_s sub_t apart =
    let one = has-one s n many in
    let k = one.id in
    let left : set.len (set.remove s k) ≡ n = omega (arith, many, taken-len s k one.has) in
    let less = apart-len n (set.remove s k) t (set.remove m k) left
    (λ q h. kept m k q (is-other s k q h) (sub_s q (was-there s k q h)))
    (λ q h. kept m k q (λ same. apart q (subst (λ x. Has s x) (sym ((unsigned_Decides q k).0 (sym (unsigned_tied q k) ∙ same))) one.has) h) (sub_t q h))
    (λ q h. apart q (was-there s k q h)) in
    omega (arith, less, taken-len m k (sub_s k one.has))

-- two sets within a third that share no id have no more ids together than it
pub apart_are_few : (s t m : Ids) → IsWithin s m → IsWithin t m → ((q : ℕ) → Has s q → Has t q → ⊥) → set.len s + set.len t ≤ set.len m
apart_are_few s t m = apart-len (set.len s) s t m refl
