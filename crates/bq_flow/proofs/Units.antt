-- At which units of a text an instruction begins.
use Rattle.std.proofs.Common.{◌≡◌, ℕ, zero, suc, ◌+◌, ◌<◌, List, [], ◌∷◌, ◌++◌, length, get_or, Option, Some, None, ap, sym, subst, ◌∙◌, refl, arith, inl, inr}
use Rattle.std.specs.Prelude.{◌⊎◌}
use Rattle.std.proofs.lemmas.Bool.{cases_lt}
use Rattle.std.proofs.lemmas.List.{get_or_past}
use Rattle.std.proofs.lemmas.List.Concat.{flat_map-cons}
use Rattle.bq_insn.specs.declared.insn.Insn.{Insn}
use Rattle.bq_insn.specs.declared.insn.Insn.TheVariants as insns
use Rattle.bq_insn.specs.Slots.{slots_of, slots, units, insn_at}
use Rattle.bq_flow.specs.Successors.{next_unit}

-- an instruction of one unit
record IsNarrow (i : Insn) : Type 0 where
  slots : slots_of i ≡ Some i ∷ []
  next : (unit : ℕ) → next_unit unit i ≡ unit + 1

-- an instruction of two units
record IsWide (i : Insn) : Type 0 where
  slots : slots_of i ≡ Some i ∷ None ∷ []
  next : (unit : ℕ) → next_unit unit i ≡ unit + 2

narrow_or_wide : (i : Insn) → IsNarrow i ⊎ IsWide i
narrow_or_wide (insns.Wide d v) = inr (record { slots = refl; next = λ u. refl })
narrow_or_wide i = inl (record { slots = refl; next = λ u. refl })

next_suc : (unit : ℕ) (i : Insn) → next_unit (suc unit) i ≡ suc (next_unit unit i)
next_suc unit i = elim (narrow_or_wide i) [
  | inl n ↦ let a = n.next (suc unit) in let b = n.next unit in omega (arith, a, b)
  | inr w ↦ let a = w.next (suc unit) in let b = w.next unit in omega (arith, a, b)
]

abbrev Begins : List (Option Insn) → ℕ → Type 0
Begins s unit = (j : Insn) × (get_or s unit None ≡ Some j)

-- the unit behind an instruction of s, if s has it, begins one
abbrev NextBegins : List (Option Insn) → Type 0
NextBegins s = (unit : ℕ) (i : Insn) → get_or s unit None ≡ Some i → next_unit unit i < length s → Begins s (next_unit unit i)

front : (i : Insn) (s : List (Option Insn)) → Begins (slots_of i ++ s) 0
front i s = elim (narrow_or_wide i) [
  | inl n ↦ (i, ap (λ x. get_or (x ++ s) 0 None) n.slots)
  | inr w ↦ (i, ap (λ x. get_or (x ++ s) 0 None) w.slots)
]

first : (t : List Insn) → 0 < length (slots t) → Begins (slots t) 0
first [] l = absurd (omega (arith, l))
first (i ∷ t) l = subst (λ s. Begins s 0) (sym (flat_map-cons slots_of i t)) (front i (slots t))

abbrev none : Option Insn
none = None

nothing : (i : Insn) → none ≡ Some i → ⊥
nothing i e = cc

same : (i j : Insn) → Some i ≡ Some j → i ≡ j
same i j e = cc

beyond : (o : Option Insn) (s : List (Option Insn)) (unit : ℕ) (i : Insn) → next_unit (suc unit) i < length (o ∷ s) → next_unit unit i < length s
beyond o s unit i l = let e = next_suc unit i in omega (arith, l, e)

later : (o : Option Insn) (s : List (Option Insn)) → NextBegins s → (unit : ℕ) (i : Insn) → get_or s unit None ≡ Some i
    → next_unit (suc unit) i < length (o ∷ s) → Begins (o ∷ s) (next_unit (suc unit) i)
later o s h unit i e l = subst (Begins (o ∷ s)) (sym (next_suc unit i)) (let b = h unit i e (beyond o s unit i l) in (b.0, b.1))

behind_narrow : (i : Insn) (s : List (Option Insn)) → ((unit : ℕ) → next_unit unit i ≡ unit + 1) → (0 < length s → Begins s 0) → NextBegins s
    → NextBegins (Some i ∷ s)
behind_narrow i s next at_first h zero j e l =
    let is : next_unit 0 j ≡ 1 = ap (next_unit 0) (sym (same i j e)) ∙ next 0 in
    subst (Begins (Some i ∷ s)) (sym is) (let b = at_first (omega (arith, l, is)) in (b.0, b.1))
behind_narrow i s next at_first h (suc unit) j e l = later (Some i) s h unit j e l

behind_wide : (i : Insn) (s : List (Option Insn)) → ((unit : ℕ) → next_unit unit i ≡ unit + 2) → (0 < length s → Begins s 0) → NextBegins s
    → NextBegins (Some i ∷ None ∷ s)
behind_wide i s next at_first h zero j e l =
    let is : next_unit 0 j ≡ 2 = ap (next_unit 0) (sym (same i j e)) ∙ next 0 in
    subst (Begins (Some i ∷ None ∷ s)) (sym is) (let b = at_first (omega (arith, l, is)) in (b.0, b.1))
behind_wide i s next at_first h (suc zero) j e l = absurd (nothing j e)
behind_wide i s next at_first h (suc (suc unit)) j e l =
    later (Some i) (None ∷ s) (λ u k f m. second u k f m) (suc unit) j e l
  where
    second : NextBegins (None ∷ s)
    second zero k f m = absurd (nothing k f)
    second (suc u) k f m = later None s h u k f m

one_more : (i : Insn) (s : List (Option Insn)) → (0 < length s → Begins s 0) → NextBegins s → NextBegins (slots_of i ++ s)
one_more i s at_first h = elim (narrow_or_wide i) [
  | inl n ↦ subst (λ x. NextBegins (x ++ s)) (sym n.slots) (behind_narrow i s n.next at_first h)
  | inr w ↦ subst (λ x. NextBegins (x ++ s)) (sym w.slots) (behind_wide i s w.next at_first h)
]

begins : (t : List Insn) → NextBegins (slots t)
begins [] = λ unit i e l. absurd (omega (arith, l))
begins (i ∷ t) = subst NextBegins (sym (flat_map-cons slots_of i t)) (one_more i (slots t) (first t) (begins t))

-- at unit 0 an instruction begins
pub first_begins : (t : List Insn) → 0 < units t → (j : Insn) × (insn_at t 0 ≡ Some j)
first_begins t l = first t l

-- and so does one behind each instruction that is not the last
pub next_begins : (t : List Insn) (unit : ℕ) (i : Insn) → insn_at t unit ≡ Some i → next_unit unit i < units t
    → (j : Insn) × (insn_at t (next_unit unit i) ≡ Some j)
next_begins t unit i e l = begins t unit i e l

-- an instruction begins at a unit of the text
pub insn_within : (t : List Insn) (unit : ℕ) (i : Insn) → insn_at t unit ≡ Some i → unit < units t
insn_within t unit i e = elim (cases_lt unit (units t)) [
  | inl l ↦ l
  | inr g ↦ absurd (nothing i (sym (get_or_past (slots t) unit None g) ∙ e))
]

-- the unit behind an instruction lies forward
pub next_forward : (unit : ℕ) (i : Insn) → unit < next_unit unit i
next_forward unit i = elim (narrow_or_wide i) [
  | inl n ↦ let e = n.next unit in omega (arith, e)
  | inr w ↦ let e = w.next unit in omega (arith, e)
]
