-- Filling the table of states, one unit after another.
use Rattle.std.proofs.Common.{◌≡◌, ℕ, ◌+◌, ◌<◌, ◌≤◌, List, [], ◌∷◌, length, Option, Some, None, ap, sym, subst, ◌∙◌, refl, arith, inl, inr}
use Rattle.std.specs.Prelude.{◌==◌, Result, Ok, Err, IfErr, if◌then◌else◌, slice_set}
use Rattle.std.proofs.lemmas.Bool.{cases_Bool, cases_lt, eqb-true, eqb-false}
use Rattle.std.proofs.lemmas.List.{get_or-set_same, get_or-set_other, length-set}
use Rattle.bq_insn.specs.Slots.{units, IsText, insn_at}
use Rattle.bq_insn.specs.declared.insn.Insn.{Insn}
use Rattle.bq_flow.proofs.Units.{insn_within}
use Rattle.bq_range.specs.Interval.{Interval}
use Rattle.bq_state.specs.Kinds.{StateKinds}
use Rattle.bq_state.specs.Rules.{transfer}
use Rattle.bq_state.specs.Edges.{edges}
use Rattle.bq_sound.specs.Passes.{note_at}
use Rattle.bq_state.specs.declared.rule.Rule.{Rule as BrokenRule}
use Rattle.bq_check.specs.declared.fault.CheckFault.{CheckFault}
use Rattle.bq_check.specs.declared.fault.CheckFault.TheVariants.{Rule as CheckRule}
use Rattle.bq_verify.specs.Refused.{IsFirstBroken, IsRefused}
use Rattle.bq_verify.specs.States.{edges_from, leading_to}
use Rattle.bq_verify.specs.Table.{extended, with_arrival, with_arrivals, AllWithin, IsFilled}
use Rattle.bq_verify.proofs.Notes.{Notes, brought}
use Rattle.bq_verify.proofs.Forward.{AllLead, edges_lead}
use Rattle.bq_verify.proofs.Joins.{extended_twice, extended_none}
use Rattle.bq_verify.proofs.Arrivals.{states_more}

-- what one edge brings to a unit
abbrev brings : ℕ → ℕ × StateKinds → List StateKinds
brings unit edge = if edge.0 == unit then edge.1 ∷ [] else []

arrival_at : (notes : Notes) (edge : ℕ × StateKinds) (unit : ℕ) → edge.0 < length notes
    → note_at (with_arrival notes edge) unit ≡ extended (note_at notes unit) (brings unit edge)
arrival_at notes edge unit within = elim (cases_Bool (edge.0 == unit)) [
  | inl t ↦
      let e : edge.0 ≡ unit = eqb-true edge.0 unit t in
      let new : Option StateKinds = extended (note_at notes edge.0) (edge.1 ∷ []) in
      let same : note_at (slice_set notes edge.0 new) edge.0 ≡ new = get_or-set_same notes edge.0 new None within in
      rw t (subst (λ u. note_at (with_arrival notes edge) u ≡ extended (note_at notes u) (edge.1 ∷ [])) e same)
  | inr f ↦
      let n : edge.0 ≡ unit → ⊥ = eqb-false edge.0 unit f in
      let new : Option StateKinds = extended (note_at notes edge.0) (edge.1 ∷ []) in
      let other : note_at (slice_set notes edge.0 new) unit ≡ note_at notes unit = get_or-set_other notes edge.0 unit new None (λ e. n (sym e)) in
      rw f (other ∙ sym (extended_none (note_at notes unit)))
]

still_within : (notes others : Notes) (es : List (ℕ × StateKinds)) → length others ≡ length notes → AllWithin notes es → AllWithin others es
still_within notes others [] e w = tt
still_within notes others (edge ∷ es) e w = let first = w.0 in (omega (arith, e, first), still_within notes others es e w.1)

arrival_count : (notes : Notes) (edge : ℕ × StateKinds) → length (with_arrival notes edge) ≡ length notes
arrival_count notes edge = length-set notes edge.0 (extended (note_at notes edge.0) (edge.1 ∷ []))

arrivals_count : (notes : Notes) (es : List (ℕ × StateKinds)) → length (with_arrivals notes es) ≡ length notes
arrivals_count notes [] = refl
arrivals_count notes (edge ∷ es) = arrivals_count (with_arrival notes edge) es ∙ arrival_count notes edge

arrivals_at : (notes : Notes) (es : List (ℕ × StateKinds)) (unit : ℕ) → AllWithin notes es
    → note_at (with_arrivals notes es) unit ≡ extended (note_at notes unit) (leading_to unit es)
arrivals_at notes [] unit w = sym (extended_none (note_at notes unit))
arrivals_at notes (edge ∷ es) unit w =
    let rest = arrivals_at (with_arrival notes edge) es unit (still_within notes (with_arrival notes edge) es (arrival_count notes edge) w.1) in
    let first = arrival_at notes edge unit w.0 in
    rest ∙ (ap (λ o. extended o (leading_to unit es)) first ∙ extended_twice (note_at notes unit) (brings unit edge) (leading_to unit es))

-- edges that lead forward, of a unit of a text
module _ (text : List Insn) (unit : ℕ) (notes : Notes) (count : length notes ≡ units text) where
  all_within : (es : List (ℕ × StateKinds)) → AllLead text unit es → AllWithin notes es
  all_within [] l = tt
  all_within (edge ∷ es) l =
      let to = l edge (inl refl) in
      let inside = insn_within text edge.0 to.insn to.begins in
      (omega (arith, count, inside), all_within es (λ e among. l e (inr among)))

  -- nothing arrives at this unit or at one below
  none_back : (v : ℕ) (es : List (ℕ × StateKinds)) → v ≤ unit → AllLead text unit es → leading_to v es ≡ []
  none_back v [] before l = refl
  none_back v (edge ∷ es) before l = elim (cases_Bool (edge.0 == v)) [
    | inl t ↦ let e : edge.0 ≡ v = eqb-true edge.0 v t in let forward = (l edge (inl refl)).forward in absurd (omega (arith, e, forward, before))
    | inr f ↦ rw f (none_back v es before (λ e among. l e (inr among)))
  ]

  kept : (v : ℕ) (es : List (ℕ × StateKinds)) → AllLead text unit es → v ≤ unit → note_at (with_arrivals notes es) v ≡ note_at notes v
  kept v es l before =
      arrivals_at notes es v (all_within es l) ∙ ap (extended (note_at notes v)) (none_back v es before l) ∙ extended_none (note_at notes v)

-- ---- one more unit

from_none : (n : ℕ) (o : Option Insn) → edges_from n o None ≡ []
from_none n None = refl
from_none n (Some i) = refl

-- the table is right for the units below n
module _ {bounds : Interval} {text : List Insn} {notes : Notes} {n : ℕ} (h : IsFilled bounds text notes n) where
  -- a table that has what the unit brings, where the instruction at the unit breaks no rule
  filled_more : (others : Notes) → length others ≡ units text → ((v : ℕ) → v < n + 1 → note_at others v ≡ note_at notes v)
      → ((unit : ℕ) → unit < units text → note_at others unit ≡ extended (note_at notes unit) (brought text notes n unit))
      → ((i : Insn) (state : StateKinds) → insn_at text n ≡ Some i → note_at notes n ≡ Some state → (after : StateKinds) × (transfer i state ≡ Ok after))
      → IsFilled bounds text others (n + 1)
  filled_more others count same more here = record {
    legal = h.legal;
    states = states_more bounds text notes others n h.states count same more;
    unbroken = record { each = unbroken };
  }
    where
      unbroken : (unit : ℕ) (i : Insn) (state : StateKinds) → unit < n + 1 → insn_at text unit ≡ Some i → note_at others unit ≡ Some state
          → (after : StateKinds) × (transfer i state ≡ Ok after)
      unbroken unit i state l there noted =
          let was = sym (same unit l) ∙ noted in
          elim (cases_lt unit n) [
            | inl k ↦ h.unbroken.each unit i state k there was
            | inr g ↦
                let e : n ≡ unit = omega (arith, l, g) in
                here i state (ap (insn_at text) e ∙ there) (ap (note_at notes) e ∙ was)
          ]

  -- a unit where no instruction begins, or that nothing reaches
  filled_past : edges_from n (insn_at text n) (note_at notes n) ≡ []
      → ((i : Insn) (state : StateKinds) → insn_at text n ≡ Some i → note_at notes n ≡ Some state → ⊥) → IsFilled bounds text notes (n + 1)
  filled_past empty never =
      filled_more notes h.states.count (λ v l. refl)
      (λ unit within. sym (extended_none (note_at notes unit)) ∙ ap (λ es. extended (note_at notes unit) (leading_to unit es)) (sym empty))
      (λ i state there here. absurd (never i state there here))

  pub filled_half : insn_at text n ≡ None → IsFilled bounds text notes (n + 1)
  filled_half none = filled_past (rw none refl) (λ i state there here. let bad : Some i ≡ None = sym there ∙ none in absurd (cc))

  pub filled_unreached : note_at notes n ≡ None → IsFilled bounds text notes (n + 1)
  filled_unreached none =
      filled_past (rw none (from_none n (insn_at text n))) (λ i state there here. let bad : Some state ≡ None = sym here ∙ none in absurd (cc))

  pub edges_within : (i : Insn) (after : StateKinds) → IsText text → insn_at text n ≡ Some i → AllWithin notes (edges n i after)
  edges_within i after text_is there =
      all_within text n notes h.states.count (edges n i after) (edges_lead text n i after text_is.few h.legal there)

  -- an instruction with a state
  module _ (i : Insn) (state : StateKinds) (there : insn_at text n ≡ Some i) (here : note_at notes n ≡ Some state) where
    pub filled_by : (new : Notes) → IsText text → (after : StateKinds) × (transfer i state ≡ Ok after) × (new ≡ with_arrivals notes (edges n i after))
        → IsFilled bounds text new (n + 1)
    filled_by new text_is (after, passed, is) = subst (λ table. IsFilled bounds text table (n + 1)) (sym is)
        (filled_more (with_arrivals notes es) (arrivals_count notes es ∙ h.states.count) (λ v l. kept text n notes h.states.count v es lead (omega (arith, l)))
        (λ unit within. arrivals_at notes es unit (edges_within i after text_is there)
        ∙ ap (λ edges. extended (note_at notes unit) (leading_to unit edges)) (sym are))
        same)
      where
        es : List (ℕ × StateKinds)
        es = edges n i after

        lead : AllLead text n es
        lead = edges_lead text n i after text_is.few h.legal there

        are : edges_from n (insn_at text n) (note_at notes n) ≡ es
        are = rw (there, here, passed) refl

        same : (j : Insn) (s : StateKinds) → insn_at text n ≡ Some j → note_at notes n ≡ Some s → (a : StateKinds) × (transfer j s ≡ Ok a)
        same j s begins noted =
            let first : Some i ≡ Some j = sym there ∙ begins in
            let second : Some state ≡ Some s = sym here ∙ noted in
            let is : i ≡ j = cc in
            let was : state ≡ s = cc in
            (after, subst (λ k. transfer k s ≡ Ok after) is (subst (λ k. transfer i k ≡ Ok after) was passed))

    -- a rule that the pass meets is the first that is broken
    pub broken_first : (fault : CheckFault) → (rule : BrokenRule) × (fault ≡ CheckRule n rule) × (transfer i state ≡ Err rule) → IsRefused bounds text fault
    broken_first fault broken =
        let first : IsFirstBroken bounds text n broken.0 =
        record { notes = notes; states = h.states; below = h.unbroken; insn = i; there = there; state = state; noted = here; broken = broken.2 } in
        subst (IsRefused bounds text) (sym broken.1) (h.legal, first)

pub passed_on : {A : Type 0} (P : CheckFault → Type 0) (result : Result A CheckFault) (x fault : CheckFault) → result ≡ Err x → x ≡ fault → P fault
    → IfErr result P
passed_on P result x fault is same holds = subst (λ r. IfErr r P) (sym is) (subst P (sym same) holds)
