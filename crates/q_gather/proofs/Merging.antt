-- Which step goes first makes no difference to whether lists merge.
use Rattle.std.proofs.Common.{◌≡◌, ℕ, List, [], ◌∷◌, ◌++◌, get_or, Option, Some, None, sym, ap, ◌∙◌, subst, inl, inr, ⊎_elim}
use Rattle.std.specs.Prelude.{Contains, slice_get, slice_set, IfSome}
use Rattle.std.proofs.lemmas.Bool.{cases_eq}
use Rattle.std.proofs.lemmas.List.{set_comm}
use Rattle.std.proofs.lemmas.List.Elements.{Contains-append_left, Contains-append_right, Contains-append_cases}
use Rattle.std.proofs.lemmas.Option.{get_or_from_slice_get, slice_get_within, slice_get-get_or}
use Rattle.q_history.proofs.Lists.{same_Some, get_elsewhere}
use Rattle.q_gather.specs.Merging.{Step, CanGo, AreOver, Merges}
use Rattle.q_gather.specs.Merging.Merges.{Over, Takes}

-- where all lists are over, each is, and the other way round
pub over_at : {M : Type 0} (lists : List (List (Step M))) (k : ℕ) (steps : List (Step M)) → AreOver lists → slice_get lists k ≡ Some steps → steps ≡ []
over_at lists k steps over at = sym (get_or_from_slice_get lists k steps [] at) ∙ over k [] (slice_get_within lists k steps at)

pub all_over : {M : Type 0} (lists : List (List (Step M))) → ((k : ℕ) (steps : List (Step M)) → slice_get lists k ≡ Some steps → steps ≡ []) → AreOver lists
all_over lists over k d within = over k (get_or lists k d) (slice_get-get_or lists k d within)

-- what was given is given there too
abbrev pub IsWithin : {M : Type 0} → List M → List M → Type 0
IsWithin {M} given more = (m : M) → Contains given m → Contains more m

wants_on : {M : Type 0} (given more : List M) (o : Option M) → IsWithin given more → IfSome o (Contains given) → IfSome o (Contains more)
wants_on given more None within can = tt
wants_on given more (Some m) within can = within m can

-- a step that can go still can where more was given
still_can : {M : Type 0} (given more : List M) (s : Step M) → CanGo given s → CanGo (given ++ more) s
still_can given more s can = wants_on given (given ++ more) s.wants (λ m h. Contains-append_left given more m h) can

both_on : {M : Type 0} (given more outs : List M) → IsWithin given more → IsWithin (given ++ outs) (more ++ outs)
both_on given more outs within m h =
    ⊎_elim (λ a. Contains-append_left more outs m (within m a)) (λ b. Contains-append_right more outs m b) (Contains-append_cases given outs m h)

-- only what is among the given messages counts, and more of them do no harm
pub merges_on : {M : Type 0} {given : List M} {lists : List (List (Step M))} → Merges M given lists → (more : List M) → IsWithin given more
    → Merges M more lists
merges_on (Over over) more within = Over over
merges_on (Takes {given = given} k s rest at can then) more within =
    Takes k s rest at (wants_on given more s.wants within can) (merges_on then (more ++ s.gives) (both_on given more s.gives within))

swapped : {M : Type 0} (given one two : List M) → IsWithin ((given ++ one) ++ two) ((given ++ two) ++ one)
swapped given one two m h =
    ⊎_elim
    (λ a. ⊎_elim
    (λ b. Contains-append_left (given ++ two) one m (Contains-append_left given two m b))
    (λ b. Contains-append_right (given ++ two) one m b)
    (Contains-append_cases given one m a))
    (λ a. Contains-append_left (given ++ two) one m (Contains-append_right given two m a))
    (Contains-append_cases (given ++ one) two m h)

pub same_first : {X : Type 0} (x y : X) (xs ys : List X) → x ∷ xs ≡ y ∷ ys → (x ≡ y) × (xs ≡ ys)
same_first x y xs ys h = (cc, cc)

-- two lists whose first steps can go
module _ {M : Type 0} (given : List M) (lists : List (List (Step M))) (j : ℕ) (t : Step M) (left : List (Step M))
    (there : slice_get lists j ≡ Some (t ∷ left)) (may : CanGo given t) (k : ℕ) (s : Step M) (rest : List (Step M)) where
  by_one : slice_get lists k ≡ Some (s ∷ rest) → j ≡ k → Merges M (given ++ t.gives) (slice_set lists j left)
      → Merges M (given ++ s.gives) (slice_set lists k rest)
  by_one at same then =
      let parts = same_first t s left rest (same_Some (t ∷ left) (s ∷ rest) (sym there ∙ ap (slice_get lists) same ∙ at)) in
      subst (λ (x : Step M). Merges M (given ++ x.gives) (slice_set lists k rest)) parts.0
      (subst (λ (x : List (Step M)). Merges M (given ++ t.gives) (slice_set lists k x)) parts.1
      (subst (λ (x : ℕ). Merges M (given ++ t.gives) (slice_set lists x left)) same then))

  by_two : (j ≡ k → ⊥) → Merges M ((given ++ t.gives) ++ s.gives) (slice_set (slice_set lists j left) k rest)
      → Merges M (given ++ s.gives) (slice_set lists k rest)
  by_two away then =
      Takes j t left (get_elsewhere lists k rest j (t ∷ left) away there) (still_can given s.gives t may)
      (merges_on (subst (λ (x : List (List (Step M))). Merges M ((given ++ t.gives) ++ s.gives) x) (set_comm lists j k left rest away) then)
      ((given ++ s.gives) ++ t.gives) (swapped given t.gives s.gives))

-- a first step that can go may go at once
pub merges_next : {M : Type 0} {given : List M} {lists : List (List (Step M))} → Merges M given lists → (k : ℕ) (s : Step M) (rest : List (Step M))
    → slice_get lists k ≡ Some (s ∷ rest) → CanGo given s → Merges M (given ++ s.gives) (slice_set lists k rest)
merges_next (Over {lists = lists} over) k s rest at can = let none : s ∷ rest ≡ [] = over_at lists k (s ∷ rest) over at in absurd (cc)
merges_next (Takes {given = given} {lists = lists} j t left there may then) k s rest at can = elim (cases_eq j k) [
  | inl same ↦ by_one given lists j t left there may k s rest at same then
  | inr away ↦
      by_two given lists j t left there may k s rest away
      (merges_next then k s rest (get_elsewhere lists j left k (s ∷ rest) (λ e. away (sym e)) at) (still_can given t.gives s can))
]

-- where no first step can go, lists merge only if all are over
pub merges_stuck : {M : Type 0} {given : List M} {lists : List (List (Step M))} → Merges M given lists
    → ((k : ℕ) (s : Step M) (rest : List (Step M)) → slice_get lists k ≡ Some (s ∷ rest) → CanGo given s → ⊥) → AreOver lists
merges_stuck (Over over) none = over
merges_stuck (Takes k s rest at can then) none = absurd (none k s rest at can)
