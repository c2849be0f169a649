-- A tree of pairs of numbers, seen as a finite set.
use Rattle.std.proofs.Common.{◌≡◌, ℕ, Bool, true, false, ◌||◌, cond, List, refl, sym, ap, ◌∙◌}
use Rattle.std.specs.Ordering.{nat_cmp, eq_by_cmp}
use Rattle.std.specs.Cmp.{IsTotalOrder, nat_cmp_total}
use Rattle.std.proofs.lemmas.Cmp.{eq_by_cmp_equiv, on_total, then_total}
use Rattle.std.proofs.lemmas.Map.Lookups.{exact_pairs, exact_unsigned}
use Rattle.std.specs.FinSet as set
use Rattle.std.specs.List.{list_any}
use Rattle.q_sim.specs.Delivered.{Deliveries, pair_cmp}

pub pair_cmp_total : IsTotalOrder pair_cmp
pair_cmp_total = then_total (on_total (λ (p : ℕ × ℕ). p.0) nat_cmp_total) (on_total (λ (p : ℕ × ℕ). p.1) nat_cmp_total)

exact : set.IsAntisymmetric pair_cmp
exact = exact_pairs nat_cmp nat_cmp exact_unsigned exact_unsigned

abbrev pub has : List (ℕ × ℕ) → ℕ × ℕ → Bool
has ks q = list_any (eq_by_cmp pair_cmp q) ks

pub found : (ks : List (ℕ × ℕ)) (q : ℕ × ℕ) → set.contains (set.from_list {R = pair_cmp} ks) q ≡ has ks q
found ks q = set.contains-from_list pair_cmp_total ks q

contains-view : (ks : List (ℕ × ℕ)) (s : Deliveries) → set.from_list ks ≡ s → (q : ℕ × ℕ) → set.contains s q ≡ has ks q
contains-view ks s is q = ap (λ (t : Deliveries). set.contains t q) (sym is) ∙ found ks q

or_cond : (a b : Bool) → cond a true b ≡ (a || b)
or_cond true b = refl
or_cond false b = refl

-- keys that differ at one make a set that has that one too
pub one_more : (ks ls : List (ℕ × ℕ)) (k : ℕ × ℕ) (s : Deliveries) → set.from_list ks ≡ s
    → ((q : ℕ × ℕ) → has ls q ≡ cond (eq_by_cmp pair_cmp k q) true (has ks q)) → set.from_list ls ≡ set.insert s k
one_more ks ls k s is h =
    set.same_set pair_cmp_total exact (set.from_list ls) (set.insert s k) (λ q.
    found ls q ∙ h q ∙ or_cond (eq_by_cmp pair_cmp k q) (has ks q)
    ∙ (λ i. (eq_by_cmp_equiv pair_cmp_total).symm k q i || sym (contains-view ks s is q) i)
    ∙ sym (set.contains-insert pair_cmp_total s k q))

-- ---- what is in a set after one more

-- what was put in is in
pub in_itself : (s : Deliveries) (k : ℕ × ℕ) → set.contains (set.insert s k) k ≡ true
in_itself s k =
    set.contains-insert pair_cmp_total s k k
    ∙ ap (λ b. b || set.contains s k) ((eq_by_cmp_equiv pair_cmp_total).refl k)

or_left : (a b : Bool) → (a || b) ≡ false → b ≡ false
or_left true b h = absurd (cc)
or_left false b h = h

-- what is not in then was not in before
pub not_before : (s : Deliveries) (k q : ℕ × ℕ) → set.contains (set.insert s k) q ≡ false → set.contains s q ≡ false
not_before s k q h = or_left (eq_by_cmp pair_cmp q k) (set.contains s q) (sym (set.contains-insert pair_cmp_total s k q) ∙ h)
