-- A tree of numbered entries, seen as a finite map.
use Rattle.std.proofs.Common.{◌≡◌, ℕ, ◌<◌, cond, List, [], ◌∷◌, length, Option, Some, None, refl, sym, ap, subst, ◌∙◌, T, Ordering}
use Rattle.std.specs.declared.cmp.Ordering.TheVariants.{Less, Equal, Greater}
use Rattle.std.specs.Ordering.{nat_cmp, is_lt, is_eq}
use Rattle.std.specs.Cmp.{nat_cmp_total, eq_by_cmp_equiv, ranked}
use Rattle.std.specs.FinMap as fin
use Rattle.std.specs.FinMap.Entries.{find, is_sorted, below_all}
use Rattle.std.specs.List.{AllByRecursion}
use Rattle.std.specs.List.Sorted.{IsStrictlySortedBy}
use Rattle.std.specs.Map.{lookup, keys_of}
use Rattle.std.specs.BTreeMap.{is_at}
use Rattle.forms.proofs.Tests.{both, first, second}

less : (o : Ordering) → T (is_lt o) → o ≡ Less
less Less p = refl
less Equal p = absurd p
less Greater p = absurd p

pub less_from : (x y : ℕ) → T (is_lt (nat_cmp x y)) → x < y
less_from x y h = ranked x y Less (sym (less (nat_cmp x y) h))

module _ {X : Type 0} where
  below : (x : ℕ) (es : List (ℕ × X)) → AllByRecursion (λ y. nat_cmp x y ≡ Less) (keys_of es) → T (below_all nat_cmp x es)
  below x [] h = tt
  below x (e ∷ es) h = both _ _ (subst (λ r. T (is_lt r)) (sym h.0) tt) (below x es h.1)

  rises : (es : List (ℕ × X)) → IsStrictlySortedBy nat_cmp (keys_of es) → T (is_sorted nat_cmp es)
  unfolding IsStrictlySortedBy
  rises [] h = tt
  rises (e ∷ es) h = both _ _ (below e.0 es h.0) (rises es h.1)

  pub head_rises : (e : ℕ × X) (es : List (ℕ × X)) → T (is_sorted nat_cmp (e ∷ es)) → T (below_all nat_cmp e.0 es)
  head_rises e es h = first _ _ h

  pub tail_rises : (e : ℕ × X) (es : List (ℕ × X)) → T (is_sorted nat_cmp (e ∷ es)) → T (is_sorted nat_cmp es)
  tail_rises e es h = second _ _ h

  -- a number below all ids isn't found
  pub missed : (x : ℕ) (es : List (ℕ × X)) → T (below_all nat_cmp x es) → find nat_cmp x es ≡ None
  missed x [] h = refl
  missed x (e ∷ es) h = ap (λ r. cond (is_eq r) (Some e.1) (find nat_cmp x es)) (less (nat_cmp x e.0) (first _ _ h)) ∙ missed x es (second _ _ h)

  -- entries in order are the entries of their map
  pub entries_sorted : (es : List (ℕ × X)) → T (is_sorted nat_cmp es) → fin.entries (fin.from_entries {R = nat_cmp} es) ≡ es
  entries_sorted es h =
      ap fin.entries (fin.same_map nat_cmp_total fin.nat_cmp-IsAntisymmetric _ _ (λ q.
      fin.get-from_entries nat_cmp_total es q ∙ sym (fin.get-from_sorted nat_cmp es q h)))
      ∙ fin.entries-from_sorted nat_cmp es h

  pub entries_found : (es : List (ℕ × X)) → IsStrictlySortedBy nat_cmp (keys_of es) → fin.entries (fin.from_entries {R = nat_cmp} es) ≡ es
  entries_found es h = entries_sorted es (rises es h)

  pub len_found : (es : List (ℕ × X)) → IsStrictlySortedBy nat_cmp (keys_of es) → fin.len (fin.from_entries {R = nat_cmp} es) ≡ length es
  len_found es h = fin.len-entries _ ∙ ap length (entries_found es h)

  abbrev pub found : List (ℕ × X) → ℕ → Option X
  found es q = lookup (is_at (nat_cmp q)) es

  find_found : (es : List (ℕ × X)) (q : ℕ) → find nat_cmp q es ≡ found es q
  find_found [] q = refl
  find_found (e ∷ es) q = ap (cond (is_at (nat_cmp q) e.0) (Some e.1)) (find_found es q)

  pub get_found : (es : List (ℕ × X)) (q : ℕ) → fin.get (fin.from_entries {R = nat_cmp} es) q ≡ found es q
  get_found es q = fin.get-from_entries nat_cmp_total es q ∙ find_found es q

  -- entries that differ at one key make maps that differ there
  pub one_written : (es fs : List (ℕ × X)) (k : ℕ) (v : X) → ((q : ℕ) → found fs q ≡ cond (is_at (nat_cmp k) q) (Some v) (found es q))
      → fin.from_entries {R = nat_cmp} fs ≡ fin.insert (fin.from_entries es) k v
  one_written es fs k v h = fin.same_map nat_cmp_total fin.nat_cmp-IsAntisymmetric _ _ (λ q.
      get_found fs q ∙ h q ∙ ap (λ b. cond b (Some v) (found es q)) ((eq_by_cmp_equiv nat_cmp_total).symm k q)
      ∙ sym (fin.get-insert nat_cmp_total (fin.from_entries es) k v q ∙ ap (cond (is_at (nat_cmp q) k) (Some v)) (get_found es q)))
