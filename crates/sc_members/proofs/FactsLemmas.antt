-- When facts have few ids, and when they are known.
use Rattle.std.proofs.Common.{◌≡◌, ℕ, ◌≤◌, Bool, true, List, [], ◌∷◌, length, sym, ap, subst, arith, IsTrue, ◌↔◌}
use Rattle.std.specs.Ordering.{nat_cmp}
use Rattle.std.specs.FinSet as set
use Rattle.sc_members.specs.Members.{Facts, IsFacts, no_facts, founding, most_facts, union_facts, with_entered, with_joined, with_left}
use Rattle.sc_members.proofs.Sets.{len_insert, insert_known, known_insert, union_known, known_union}

none_few : set.len (set.empty {R = nat_cmp}) ≤ most_facts
none_few = subst (λ n. n ≤ most_facts) (sym (set.len-empty nat_cmp)) (omega arith)

pub no_facts_few : IsFacts no_facts
no_facts_few = record { entered = none_few; joined = none_few; left = none_few }

-- a list has at least as many ids as its set
len_short : (ks : List ℕ) → set.len (set.from_list {R = nat_cmp} ks) ≤ length ks
len_short [] = omega (arith, set.len-empty nat_cmp)
len_short (k ∷ ks) = omega (arith, (len_insert (set.from_list ks) k).1, len_short ks)

pub founders_few : (ks : List ℕ) → length ks ≤ most_facts → IsFacts (founding ks)
founders_few ks h = record { entered = omega (arith, len_short ks, h); joined = omega (arith, len_short ks, h); left = none_few }

-- ---- what is known

pub entered_known : (id : ℕ) (f g : Facts) → g ≡ f → with_entered f id ≡ f → set.contains g.entered id ≡ true
entered_known id f g is same = rw is (known_insert f.entered id (ap (λ (x : Facts). x.entered) same))

pub left_known : (id : ℕ) (f g : Facts) → g ≡ f → with_left f id ≡ f → set.contains g.left id ≡ true
left_known id f g is same = rw is (known_insert f.left id (ap (λ (x : Facts). x.left) same))

abbrev pub HasJoined : ℕ → Facts → Type 0
HasJoined id f = (set.contains f.entered id ≡ true) × (set.contains f.joined id ≡ true)

same_joined : (id : ℕ) (f : Facts) → HasJoined id f → with_joined f id ≡ f
same_joined id f h = λ i. record { entered = insert_known f.entered id h.0 i; joined = insert_known f.joined id h.1 i; left = f.left }

joined_same : (id : ℕ) (f : Facts) → with_joined f id ≡ f → HasJoined id f
joined_same id f same = (known_insert f.entered id (ap (λ (x : Facts). x.entered) same), known_insert f.joined id (ap (λ (x : Facts). x.joined) same))

pub knows_joined : (id : ℕ) (r : Bool) (f g : Facts) → g ≡ f → (r ≡ true → HasJoined id g) → (HasJoined id g → r ≡ true) → IsTrue r ↔ (with_joined f id ≡ f)
knows_joined id r f g is to from = rw (← is) ((λ yes. same_joined id g (to yes)), (λ same. from (joined_same id g same)))

-- all that the second say is known
abbrev pub AreWithin : Facts → Facts → Type 0
AreWithin f g = (set.is_subset g.entered f.entered ≡ true) × (set.is_subset g.joined f.joined ≡ true) × (set.is_subset g.left f.left ≡ true)

same_union : (f g : Facts) → AreWithin f g → union_facts f g ≡ f
same_union f g h = λ i. record {
  entered = union_known f.entered g.entered h.0 i;
  joined = union_known f.joined g.joined h.1 i;
  left = union_known f.left g.left h.2 i;
}

union_same : (f g : Facts) → union_facts f g ≡ f → AreWithin f g
union_same f g same = (
  known_union f.entered g.entered (ap (λ (x : Facts). x.entered) same),
  known_union f.joined g.joined (ap (λ (x : Facts). x.joined) same),
  known_union f.left g.left (ap (λ (x : Facts). x.left) same),
)

pub knows_all : (r : Bool) (f g f_inside g_inside : Facts) → f_inside ≡ f → g_inside ≡ g → (r ≡ true → AreWithin f_inside g_inside)
    → (AreWithin f_inside g_inside → r ≡ true) → IsTrue r ↔ (union_facts f g ≡ f)
knows_all r f g f_inside g_inside is_f is_g to from =
    rw (← is_f, ← is_g) ((λ yes. same_union f_inside g_inside (to yes)), (λ same. from (union_same f_inside g_inside same)))
