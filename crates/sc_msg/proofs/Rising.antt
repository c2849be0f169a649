-- Rising ids, and the sets and views that are made of them.
use Rattle.std.proofs.Common.{◌≡◌, ℕ, ◌<◌, ◌≤◌, true, List, [], ◌∷◌, ◌++◌, length, map, Option, Some, None, T, refl, sym, ap, ◌∙◌, arith}
use Rattle.std.proofs.lemmas.Bool.{ltb-true, lt-ltb}
use Rattle.std.proofs.lemmas.List.{append-nil}
use Rattle.std.specs.declared.cmp.Ordering.TheVariants.{Less}
use Rattle.std.specs.Ordering.{nat_cmp}
use Rattle.std.specs.Cmp.{nat_cmp_is, nat_cmp_total}
use Rattle.std.specs.FinMap as fin
use Rattle.std.specs.FinMap.Entries.{find, is_sorted, below_all, put as put_entry}
use Rattle.std.specs.FinSet as set
use Rattle.std.specs.List.{AllByRecursion}
use Rattle.std.specs.List.Sorted.{IsStrictlySortedBy}
use Rattle.forms.proofs.Maps.{less_from}
use Rattle.forms.proofs.Tests.{first, second}
use Rattle.sc_members.specs.Ids.{Ids, as_map, rising}
use Rattle.sc_members.proofs.Sets.{rising-from_list, len-from_list}
use Rattle.sc_view.specs.declared.view.Stored.{Stored}
use Rattle.sc_view.specs.Views.{ViewMap, newer, put}
use Rattle.sc_view.specs.Rows.{Under}
use Rattle.sc_view.proofs.EntryLemmas.{Entries, put_under, find_within}
use Rattle.sc_msg.specs.Entries.{IsRising, last_of, is_above}

-- ---- rising ids are in order

-- ids that rise from one that is at least x are above x
above_all : (x y : ℕ) (ids : List ℕ) → x ≤ y → IsRising (Some y) ids → AllByRecursion (λ z. nat_cmp x z ≡ Less) ids
above_all x y [] le h = tt
above_all x y (z ∷ ids) le h =
    let next : x < z = omega (arith, le, ltb-true y z h.0) in
    (sym (nat_cmp_is x z Less next), above_all x z ids (omega (arith, next)) h.1)

rising_sorted : (last : Option ℕ) (ids : List ℕ) → IsRising last ids → IsStrictlySortedBy nat_cmp ids
unfolding IsStrictlySortedBy
rising_sorted last [] h = tt
rising_sorted last (x ∷ ids) h = (above_all x x ids (omega arith) h.1, rising_sorted (Some x) ids h.1)

-- ---- sets

pub set-push : (ids : List ℕ) (id : ℕ) → set.from_list {R = nat_cmp} (ids ++ id ∷ []) ≡ set.insert (set.from_list ids) id
set-push ids id = set.from_list_push nat_cmp_total set.nat_cmp-IsAntisymmetric ids id

pub rising_made : (ids : List ℕ) (s : Ids) → IsRising None ids → s ≡ set.from_list ids → rising s ≡ ids
rising_made ids s h made = ap rising made ∙ rising-from_list ids (rising_sorted None ids h)

pub len_made : (ids : List ℕ) (s : Ids) → IsRising None ids → s ≡ set.from_list ids → set.len s ≡ length ids
len_made ids s h made = ap set.len made ∙ len-from_list ids (rising_sorted None ids h)

-- ---- the entries of a map rise

-- entries in order behind one with the id x
sorted_from : {X : Type 0} (x : ℕ) (es : List (ℕ × X)) → T (below_all nat_cmp x es) → T (is_sorted nat_cmp es) → IsRising (Some x) (map (λ e. e.0) es)
sorted_from x [] h s = tt
sorted_from x (e ∷ es) h s = (lt-ltb x e.0 (less_from x e.0 (first _ _ h)), sorted_from e.0 es (first _ _ s) (second _ _ s))

sorted_rising : {X : Type 0} (es : List (ℕ × X)) → T (is_sorted nat_cmp es) → IsRising None (map (λ e. e.0) es)
sorted_rising [] s = tt
sorted_rising (e ∷ es) s = (refl, sorted_from e.0 es (first _ _ s) (second _ _ s))

pub entries_rising : {X : Type 0} (m : fin.FinMap nat_cmp X) → IsRising None (map (λ e. e.0) (fin.entries m))
entries_rising m = sorted_rising (fin.entries m) (fin.entries_sorted m)

pub rising_rising : (s : Ids) → IsRising None (rising s)
rising_rising s = entries_rising (as_map s)

-- ---- views

-- an id above the last is above all
below_last : (x : ℕ) (ids : List ℕ) (id : ℕ) → IsRising (Some x) ids → is_above (last_of (Some x) ids) id ≡ true → x < id
below_last x [] id h above = ltb-true x id above
below_last x (y ∷ ids) id h above = omega (arith, ltb-true x y h.0, below_last y ids id h.1 above)

below_each : (last : Option ℕ) (es : Entries) (id : ℕ) → IsRising last (map (λ e. e.0) es) → is_above (last_of last (map (λ e. e.0) es)) id ≡ true
    → Under id es
below_each last [] id h above = tt
below_each last (e ∷ es) id h above = (below_last e.0 (map (λ e. e.0) es) id h.1 above, below_each (Some e.0) es id h.1 above)

pub entries-put : (v : ViewMap) (id : ℕ) (e : Stored) → is_above (last_of None (map (λ e. e.0) (fin.entries v))) id ≡ true
    → fin.entries (put v id e) ≡ fin.entries v ++ (id, e) ∷ []
entries-put v id e above =
    let es = fin.entries v in
    let all = append-nil es in
    let under = below_each None es id (entries_rising v) above in
    let none : fin.get v id ≡ None = fin.get-entries v id ∙ ap (find nat_cmp id) (sym all) ∙ find_within id es [] [] under tt in
    fin.entries-insert nat_cmp_total v id (newer (fin.get v id) e)
    ∙ (λ i. put_entry nat_cmp id (newer (none i) e) (sym all i)) ∙ put_under id e es [] under
