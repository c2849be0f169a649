-- The lengths of a view's values, by its entries and by its chunks.
use Rattle.std.proofs.Common.{◌≡◌, ◌↔◌, ◌&&◌, nat_le, ℕ, Bool, IsTrue, true, false, [], ◌∷◌, length, Some, refl, sym, ap, subst, ◌∙◌, arith, true≢false}
use Rattle.std.specs.Cmp.{first_so, second_so}
use Rattle.std.proofs.lemmas.Option.{none-some}
use Rattle.std.specs.List.{All, AllByRecursion, list_all}
use Rattle.std.proofs.lemmas.Bool.{leb-true, le-leb, false_from_ne_true}
use Rattle.std.proofs.lemmas.List.Elements.{All-from_recursion, recursion_from_All}
use Rattle.std.specs.Ordering.{nat_cmp, is_eq}
use Rattle.std.specs.FinMap as fin
use Rattle.std.specs.FinMap.Entries.{find}
use Rattle.sc_view.specs.declared.view.Stored.{Stored}
use Rattle.sc_view.specs.Values.{Lengths, IsWithin, is_within, all_lengths}
use Rattle.sc_view.specs.Views.{ViewMap, IsView, HasValuesWithin, has_values_within, put, merge, joined}
use Rattle.sc_view.specs.Rows.{Rises}
use Rattle.sc_view.proofs.AllLemmas.{all_both, all_split}
use Rattle.sc_view.proofs.EntryLemmas.{Entries, Row, find_here, rises_from}
use Rattle.sc_view.proofs.ViewLemmas.{one_of, put_each, merge_each}
use Rattle.sc_view.proofs.MapLemmas.{view_of, Tells, tells_all, from_tail, entries_rising}

-- an entry's value has one of these lengths
abbrev pub Within : Lengths → ℕ × Stored → Type 0
Within l e = IsWithin (length e.1.value) l

found_within : (l : Lengths) (es : Entries) (id : ℕ) (x : Stored) → AllByRecursion (Within l) es → find nat_cmp id es ≡ Some x
    → IsWithin (length x.value) l
found_within l [] id x all is = absurd (none-some x is)
found_within l (e ∷ es) id x all is =
    one_of (λ y. IsWithin (length y.value) l) (is_eq (nat_cmp id e.0)) e.1 x (find nat_cmp id es) all.0 (found_within l es id x all.1) is

-- ---- by the entries

module _ (P : ℕ × Stored → Type 0) where
  each_of : (all es : Entries) → Rises es → Tells es es all
      → ((q : ℕ) (x : Stored) → find nat_cmp q all ≡ Some x → P (q, x)) → AllByRecursion P es
  each_of all [] r t of = tt
  each_of all (e ∷ es) r t of = (of e.0 e.1 (sym (t e.0 (omega arith)) ∙ find_here e.0 e es refl), each_of all es r.1 (from_tail e es all r t) of)

  -- what is true of what is at each id is true of each entry
  pub each_entry : (v : ViewMap) → ((id : ℕ) (x : Stored) → fin.get v id ≡ Some x → P (id, x)) → AllByRecursion P (fin.entries v)
  each_entry v h =
      let es = fin.entries v in
      each_of es es (rises_from es (fin.entries_sorted v)) (tells_all es es) (λ q x has. h q x (fin.get-entries v q ∙ has))

pub entries_within : (l : Lengths) (v : ViewMap) → HasValuesWithin l v → AllByRecursion (Within l) (fin.entries v)
entries_within l v h = each_entry (Within l) v h.at

pub within_by_entries : (l : Lengths) (v : ViewMap) → AllByRecursion (Within l) (fin.entries v) → HasValuesWithin l v
within_by_entries l v all = record { at = λ id x has. found_within l (fin.entries v) id x all (sym (fin.get-entries v id) ∙ has) }

-- the test finds a length to be one of these just where it is
pub is_told : (n : ℕ) (l : Lengths) → IsWithin n l → is_within n l ≡ true
is_told n l h = ap (λ (b : Bool). b && nat_le n l.most) (le-leb l.least n h.least) ∙ le-leb n l.most h.most

pub told_is : (n : ℕ) (l : Lengths) → is_within n l ≡ true → IsWithin n l
told_is n l h = record {
  least = leb-true l.least n (first_so (nat_le l.least n) (nat_le n l.most) h);
  most = leb-true n l.most (second_so (nat_le l.least n) (nat_le n l.most) h);
}

-- whether an entry passes the test
abbrev passes : Lengths → ℕ × Stored → Bool
passes l e = is_within (length e.1.value) l

passes_all : (l : Lengths) (es : Entries) → AllByRecursion (Within l) es → list_all (passes l) es ≡ true
passes_all l [] h = refl
passes_all l (e ∷ es) h = ap (λ (b : Bool). b && list_all (passes l) es) (is_told (length e.1.value) l h.0) ∙ passes_all l es h.1

all_pass : (l : Lengths) (es : Entries) → list_all (passes l) es ≡ true → AllByRecursion (Within l) es
all_pass l [] h = tt
all_pass l (e ∷ es) h = (told_is (length e.1.value) l (first_so (passes l e) _ h), all_pass l es (second_so (passes l e) _ h))

-- the test finds each value to have one of these lengths just where each has
pub within_told : (l : Lengths) (v : ViewMap) → HasValuesWithin l v → has_values_within l v ≡ true
within_told l v h = passes_all l (fin.entries v) (entries_within l v h)

pub told_within : (l : Lengths) (v : ViewMap) → has_values_within l v ≡ true → HasValuesWithin l v
told_within l v h = within_by_entries l v (all_pass l (fin.entries v) h)

-- an answer that is true just where each has is what the test finds
pub told_by : (l : Lengths) (v : ViewMap) (b : Bool) → (IsTrue b ↔ HasValuesWithin l v) → b ≡ has_values_within l v
told_by l v true h = sym (within_told l v (h.0 refl))
told_by l v false h = sym (false_from_ne_true (has_values_within l v) (λ yes. true≢false (sym (h.1 (told_within l v yes)))))

-- each value of a view has one of all lengths
pub short_within : (v : ViewMap) → IsView v → HasValuesWithin all_lengths v
short_within v valid = record { at = λ id x has. record { least = omega arith; most = valid.short id x has } }

-- ---- by the chunks

module _ (P : ℕ × Stored → Type 0) where
  all_joined : (cs : Row) → AllByRecursion (λ c. All P c) cs → AllByRecursion P (joined cs)
  all_joined [] h = tt
  all_joined (c ∷ cs) h = all_both P c (joined cs) (recursion_from_All P c h.0) (all_joined cs h.1)

  all_parts : (cs : Row) → AllByRecursion P (joined cs) → AllByRecursion (λ c. All P c) cs
  all_parts [] h = tt
  all_parts (c ∷ cs) h = let both = all_split P c (joined cs) h in (All-from_recursion P c both.0, all_parts cs both.1)

module _ (l : Lengths) (cs : Row) (v : ViewMap) (r : Rises (joined cs)) (is : view_of (joined cs) ≡ v) where
  same : fin.entries v ≡ joined cs
  same = ap (λ (m : ViewMap). fin.entries m) (sym is) ∙ entries_rising (joined cs) r

  pub chunks_within : HasValuesWithin l v → All (λ c. All (λ e. IsWithin (length e.1.value) l) c) cs
  chunks_within h = All-from_recursion (λ c. All (Within l) c) cs (all_parts (Within l) cs (subst (AllByRecursion (Within l)) same (entries_within l v h)))

  pub within_by_chunks : All (λ c. All (λ e. IsWithin (length e.1.value) l) c) cs → HasValuesWithin l v
  within_by_chunks all =
      let each = all_joined (Within l) cs (recursion_from_All (λ c. All (Within l) c) cs all) in
      within_by_entries l v (subst (AllByRecursion (Within l)) (sym same) each)

-- ---- what keeps lengths

pub empty_within : (l : Lengths) → HasValuesWithin l fin.empty
empty_within l = record { at = λ id x has. absurd (none-some x (sym (fin.get-empty nat_cmp id) ∙ has)) }

pub put_within : (l : Lengths) (v : ViewMap) (id : ℕ) (e : Stored) → HasValuesWithin l v → IsWithin (length e.value) l → HasValuesWithin l (put v id e)
put_within l v id e h new = record { at = put_each (λ q x. IsWithin (length x.value) l) v id e new h.at }

pub merge_within : (l : Lengths) (v w : ViewMap) → HasValuesWithin l v → HasValuesWithin l w → HasValuesWithin l (merge v w)
merge_within l v w h k = record { at = merge_each (λ id x. IsWithin (length x.value) l) v w h.at k.at }
