-- A tree of numbers, seen as a finite set.
use Rattle.std.proofs.Common.{◌≡◌, ℕ, ◌+◌, ◌<◌, ◌≤◌, arith, Bool, true, false, true≢false, IsTrue, not, ◌&&◌, ◌||◌, cond, List, [], ◌∷◌, map, length}
use Rattle.std.proofs.Common.{Option, Some, None, MatchOption, Bor, refl, sym, ap, subst, ◌∙◌, ◌↔◌, ⊎_elim}
use Rattle.std.specs.declared.cmp.Ordering.TheVariants.{Less}
use Rattle.std.specs.Ordering.{nat_cmp, is_eq, eq_by_cmp}
use Rattle.std.specs.Cmp.{nat_cmp_total, both_ways, eq_by_cmp_equiv, ranked, unsigned_tied}
use Rattle.std.proofs.lemmas.Cmp.{tied_itself}
use Rattle.std.proofs.lemmas.Bool.{eqb-true, cond_both, and_parts, or_cases, or_left, or_right}
use Rattle.std.specs.Option.{option_copied}
use Rattle.std.specs.Map.Iter.{TakesFirst, deref}
use Rattle.std.specs.FinMap as fin
use Rattle.std.specs.FinMap.Entries.{find}
use Rattle.std.specs.FinSet as set
use Rattle.std.specs.List.{AllByRecursion, list_any}
use Rattle.std.specs.List.Sorted.{IsStrictlySortedBy}
use Rattle.forms.proofs.Maps.{entries_found}
use Rattle.sc_members.specs.Ids.{Ids, IsLeastCommon, as_map, rising}

abbrev pub has : List ℕ → ℕ → Bool
has ks q = list_any (eq_by_cmp nat_cmp q) ks

-- two sets with the same members are one
pub same : (s t : Ids) → ((q : ℕ) → set.contains s q ≡ set.contains t q) → s ≡ t
same s t h = set.same_set nat_cmp_total set.nat_cmp-IsAntisymmetric s t h

pub found : (ks : List ℕ) (q : ℕ) → set.contains (set.from_list {R = nat_cmp} ks) q ≡ has ks q
found ks q = set.contains-from_list nat_cmp_total ks q

-- the set of a list with the same members
pub set_of : (ks : List ℕ) (s : Ids) → ((q : ℕ) → has ks q ≡ set.contains s q) → set.from_list ks ≡ s
set_of ks s h = same (set.from_list ks) s (λ q. found ks q ∙ h q)

abbrev mark : ℕ → ℕ × Unit {0}
mark id = (id, tt)

abbrev marked : Bool → Option (Unit {0})
marked b = cond b (Some tt) None

find_marked : (ks : List ℕ) (q : ℕ) → find nat_cmp q (map mark ks) ≡ marked (has ks q)
find_marked [] q = refl
find_marked (k ∷ ks) q =
    elim (eq_by_cmp nat_cmp q k) as (λ b. cond b (Some tt) (find nat_cmp q (map mark ks)) ≡ marked (b || has ks q)) [ true ↦ refl | false ↦ find_marked ks q ]

-- a set as a map has nothing at each id
pub get-as_map : (s : Ids) (q : ℕ) → fin.get (as_map s) q ≡ marked (set.contains s q)
get-as_map s q =
    fin.get-from_entries nat_cmp_total (map mark (set.items s)) q ∙ find_marked (set.items s) q ∙ ap marked (sym (set.contains-items s q))

keys-mark : (ks : List ℕ) → map (λ (e : ℕ × Unit {0}). e.0) (map mark ks) ≡ ks
keys-mark [] = refl
keys-mark (k ∷ ks) = ap (λ rest. k ∷ rest) (keys-mark ks)

-- ids in order are the entries of their set
pub entries-from_list : (ks : List ℕ) → IsStrictlySortedBy nat_cmp ks → fin.entries (as_map (set.from_list ks)) ≡ map mark ks
entries-from_list ks h =
    ap fin.entries (fin.same_map nat_cmp_total fin.nat_cmp-IsAntisymmetric (as_map (set.from_list ks)) (fin.from_entries (map mark ks)) (λ q.
    get-as_map _ q ∙ ap marked (found ks q) ∙ sym (fin.get-from_entries nat_cmp_total (map mark ks) q ∙ find_marked ks q)))
    ∙ entries_found (map mark ks) (subst (IsStrictlySortedBy nat_cmp) (sym (keys-mark ks)) h)

pub rising-from_list : (ks : List ℕ) → IsStrictlySortedBy nat_cmp ks → rising (set.from_list ks) ≡ ks
rising-from_list ks h = ap (map (λ e. e.0)) (entries-from_list ks h) ∙ keys-mark ks

-- a number below each of a list is not in it
missed : (x : ℕ) (ks : List ℕ) → AllByRecursion (λ y. nat_cmp x y ≡ Less) ks → has ks x ≡ false
missed x [] h = refl
missed x (k ∷ ks) h = ap (λ r. is_eq r || has ks x) h.0 ∙ missed x ks h.1

pub len-from_list : (ks : List ℕ) → IsStrictlySortedBy nat_cmp ks → set.len (set.from_list {R = nat_cmp} ks) ≡ length ks
unfolding IsStrictlySortedBy
len-from_list [] h = set.len-empty nat_cmp
len-from_list (k ∷ ks) h =
    let rest : Ids = set.from_list ks in
    set.len-insert nat_cmp_total rest k ∙ ap (λ b. cond b (set.len rest) (set.len rest + 1)) (found ks k ∙ missed k ks h.0)
    ∙ ap (λ n. n + 1) (len-from_list ks h.1) ∙ omega arith

-- as many ids as a list in order that has its members
pub len_of : (ks : List ℕ) (s : Ids) → IsStrictlySortedBy nat_cmp ks → ((q : ℕ) → has ks q ≡ set.contains s q) → length ks ≡ set.len s
len_of ks s h members = sym (len-from_list ks h) ∙ ap set.len (set_of ks s members)

pub contains-view : (ks : List ℕ) (s : Ids) → set.from_list ks ≡ s → (q : ℕ) → set.contains s q ≡ has ks q
contains-view ks s is q = ap (λ (t : Ids). set.contains t q) (sym is) ∙ found ks q

or_cond : (a b : Bool) → cond a true b ≡ (a || b)
or_cond true b = refl
or_cond false b = refl

-- keys that differ at one make a set that has that one too
pub one_more : (ks ls : List ℕ) (k : ℕ) (s : Ids) → set.from_list ks ≡ s → ((q : ℕ) → has ls q ≡ cond (eq_by_cmp nat_cmp k q) true (has ks q))
    → set.from_list ls ≡ set.insert s k
one_more ks ls k s is h = set_of ls (set.insert s k) (λ q.
    h q ∙ or_cond (eq_by_cmp nat_cmp k q) (has ks q)
    ∙ (λ i. (eq_by_cmp_equiv nat_cmp_total).symm k q i || sym (contains-view ks s is q) i)
    ∙ sym (set.contains-insert nat_cmp_total s k q))

-- two sets, and lists that make them
module _ (ks js : List ℕ) (s t : Ids) (is : set.from_list ks ≡ s) (is_other : set.from_list js ≡ t) where
  pub in_union : (zs : List ℕ) → ((q : ℕ) → has zs q ≡ (has ks q || has js q)) → (q : ℕ) → has zs q ≡ set.contains (set.union s t) q
  in_union zs h q = h q ∙ sym (set.contains-union nat_cmp_total s t q ∙ (λ i. contains-view ks s is q i || contains-view js t is_other q i))

  pub len_difference : (zs : List ℕ) → IsStrictlySortedBy nat_cmp zs → ((q : ℕ) → has zs q ≡ (has ks q && not (has js q)))
      → length zs ≡ set.len (set.difference s t)
  len_difference zs sorted h =
      len_of zs (set.difference s t) sorted (λ q.
      h q ∙ sym (set.contains-difference nat_cmp_total s t q ∙ (λ i. contains-view ks s is q i && not (contains-view js t is_other q i))))

  pub in_intersection : (zs : List ℕ) → ((q : ℕ) → has zs q ≡ (has ks q && has js q)) → (q : ℕ) → has zs q ≡ (set.contains s q && set.contains t q)
  in_intersection zs h q = h q ∙ sym (λ i. contains-view ks s is q i && contains-view js t is_other q i)

  pub subset_is : (r : Bool) → (IsTrue r ↔ ((q : ℕ) → IsTrue (has ks q) → IsTrue (has js q))) → r ≡ set.is_subset s t
  subset_is r h =
      both_ways r (set.is_subset s t)
      (λ yes. set.contains-is_subset nat_cmp_total s t (λ q there. contains-view js t is_other q ∙ h.0 yes q (sym (contains-view ks s is q) ∙ there)))
      (λ yes. h.1 (λ q there. sym (contains-view js t is_other q) ∙ set.is_subset-contains nat_cmp_total s t yes q (contains-view ks s is q ∙ there)))

-- ---- the first of a list in order

first_in : (id : ℕ) (ks : List ℕ) → has (id ∷ ks) id ≡ true
first_in id ks = ap (λ r. is_eq r || has ks id) (tied_itself nat_cmp_total id)

tied_same : (x y : ℕ) → eq_by_cmp nat_cmp x y ≡ true → x ≡ y
tied_same x y tie = eqb-true x y (sym (unsigned_tied x y) ∙ tie)

is_less : (x y : ℕ) → nat_cmp x y ≡ Less → x < y
is_less x y is = ranked x y Less (sym is)

at_least : (x q : ℕ) (ks : List ℕ) → AllByRecursion (λ y. nat_cmp x y ≡ Less) ks → has ks q ≡ true → x ≤ q
at_least x q [] h is = absurd (true≢false (sym is))
at_least x q (k ∷ ks) h is =
    ⊎_elim (λ tie. omega (arith, tied_same q k tie, is_less x k h.0)) (λ later. at_least x q ks h.1 later)
    (or_cases (eq_by_cmp nat_cmp q k) (has ks q) is)

least_of : (x q : ℕ) (ks : List ℕ) → IsStrictlySortedBy nat_cmp (x ∷ ks) → has (x ∷ ks) q ≡ true → x ≤ q
unfolding IsStrictlySortedBy
least_of x q ks h is =
    ⊎_elim (λ tie. omega (arith, tied_same q x tie)) (λ later. at_least x q ks h.0 later) (or_cases (eq_by_cmp nat_cmp q x) (has ks q) is)

-- what the first of the ids that two sets share says, where ks are those
module _ (s t : Ids) (ks : List ℕ) (rising : IsStrictlySortedBy nat_cmp ks) (shared : (q : ℕ) → has ks q ≡ (set.contains s q && set.contains t q)) where
  pub least_common : (o : Option ℕ) (rest : List ℕ) → MatchOption o (ks ≡ []) (λ id. ks ≡ id ∷ rest) → IsLeastCommon s t o
  least_common None rest is =
      record { shared = tt; least = tt; none = λ q a b. true≢false ((λ i. sym a i && sym b i) ∙ sym (shared q) ∙ ap (λ l. has l q) is) }
  least_common (Some id) rest is = record {
    shared = and_parts _ _ (sym (shared id) ∙ ap (λ l. has l id) is ∙ first_in id rest);
    least = λ q a b. least_of id q rest (subst (IsStrictlySortedBy nat_cmp) is rising) (ap (λ l. has l q) (sym is) ∙ shared q ∙ (λ i. a i && b i));
    none = tt;
  }

-- what a step of a set's iterator copies
pub first_copied : (ks : List ℕ) (r : Option (Bor ℕ)) (rest : List ℕ) (o : Option ℕ) → TakesFirst deref ks r rest → o ≡ option_copied r
    → MatchOption o (ks ≡ []) (λ id. ks ≡ id ∷ rest)
first_copied ks None rest o step is = rw is step.0
first_copied ks (Some x) rest o step is = rw is step

-- one more id makes a set larger by one at most
pub len_insert : (s : Ids) (id : ℕ) → (set.len s ≤ set.len (set.insert s id)) × (set.len (set.insert s id) ≤ set.len s + 1)
len_insert s id =
    let IsNear : ℕ → Type 0 = λ n. (set.len s ≤ n) × (n ≤ set.len s + 1) in
    subst IsNear (sym (set.len-insert nat_cmp_total s id))
    (cond_both (set.contains s id) (set.len s) (set.len s + 1) IsNear (λ _. (omega arith, omega arith)) (λ _. (omega arith, omega arith)))

-- ---- what is there already

or_first : (a b : Bool) → (b ≡ true → a ≡ true) → (a || b) ≡ a
or_first true b h = refl
or_first false true h = sym (h refl)
or_first false false h = refl

or_last : (a b : Bool) → (a ≡ true → b ≡ true) → (a || b) ≡ b
or_last true b h = sym (h refl)
or_last false b h = refl

-- a set that has the id is as it was once it has it
pub insert_known : (s : Ids) (id : ℕ) → set.contains s id ≡ true → set.insert s id ≡ s
insert_known s id is =
    same (set.insert s id) s (λ q.
    set.contains-insert nat_cmp_total s id q ∙ or_last _ _ (λ tie. subst (λ (x : ℕ). set.contains s x ≡ true) (sym (tied_same q id tie)) is))

pub known_insert : (s : Ids) (id : ℕ) → set.insert s id ≡ s → set.contains s id ≡ true
known_insert s id is =
    sym (ap (λ (t : Ids). set.contains t id) is) ∙ set.contains-insert nat_cmp_total s id id ∙ or_left _ _ (ap is_eq (tied_itself nat_cmp_total id))

pub union_known : (s t : Ids) → set.is_subset t s ≡ true → set.union s t ≡ s
union_known s t is = same (set.union s t) s (λ q. set.contains-union nat_cmp_total s t q ∙ or_first _ _ (set.is_subset-contains nat_cmp_total t s is q))

pub known_union : (s t : Ids) → set.union s t ≡ s → set.is_subset t s ≡ true
known_union s t is =
    set.contains-is_subset nat_cmp_total t s (λ q there.
    sym (ap (λ (u : Ids). set.contains u q) is) ∙ set.contains-union nat_cmp_total s t q ∙ or_right _ _ there)
