-- The states of a text fit their lengths: where records have one length, what arrives at a unit tells it by its number,
-- as the entry does. By induction over the units, by the law that what comes of such states is one.
use Rattle.std.proofs.Common.{◌≡◌, ℕ, zero, suc, ◌<◌, List, [], ◌∷◌, Some, ap, sym, subst, ◌∙◌, refl, arith, inl, inr}
use Rattle.std.specs.Prelude.{◌==◌}
use Rattle.std.specs.List.{fold, All}
use Rattle.std.proofs.lemmas.Bool.{cases_Bool}
use Rattle.std.proofs.lemmas.List.Elements.{All-head, All-tail}
use Rattle.bq_insn.specs.Slots.{units, IsText}
use Rattle.bq_insn.specs.declared.insn.Insn.{Insn}
use Rattle.bq_flow.specs.Paths.{Among, IsLegalFlow}
use Rattle.bq_range.specs.Interval.{Interval, single}
use Rattle.bq_state.specs.Kinds.{StateKinds, join_states}
use Rattle.bq_state.specs.Edges.{edges}
use Rattle.bq_state.specs.Plain.{IsPlain, StaysPlain}
use Rattle.bq_sound.specs.Passes.{note_at, AllFitLengths}
use Rattle.bq_sound.proofs.Along.{note_within}
use Rattle.bq_verify.specs.States.{joined, leading_to, arriving, AreStates}
use Rattle.bq_verify.proofs.Notes.{Notes, same_note, no_note}
use Rattle.bq_verify.proofs.Arrivals.{arrived, came_forward}

module _ (len : ℕ) (law : StaysPlain len) where
  fold_plain : (s : StateKinds) (xs : List StateKinds) → IsPlain len s → ((x : StateKinds) → Among x xs → IsPlain len x) → IsPlain len (fold join_states s xs)
  fold_plain s [] h all = h
  fold_plain s (x ∷ xs) h all = fold_plain (join_states s x) xs (law.joins s x h (all x (inl refl))) (λ y a. all y (inr a))

  joined_plain : (s : StateKinds) (xs : List StateKinds) → joined xs ≡ Some s → ((x : StateKinds) → Among x xs → IsPlain len x) → IsPlain len s
  joined_plain s [] e all = absurd (no_note s e)
  joined_plain s (x ∷ xs) e all =
      subst (IsPlain len) (same_note (fold join_states x xs) s e) (fold_plain x xs (all x (inl refl)) (λ y a. all y (inr a)))

  -- what edges with plain states bring to a unit
  brought_plain : (unit : ℕ) (x : StateKinds) (es : List (ℕ × StateKinds)) → All (λ e. IsPlain len e.1) es → Among x (leading_to unit es) → IsPlain len x
  brought_plain unit x [] plain a = absurd a
  brought_plain unit x (e ∷ es) plain a = elim (cases_Bool (e.0 == unit)) [
    | inl t ↦
        let P : (ℕ × StateKinds) → Type 0 = λ f. IsPlain len f.1 in
        let b : Among x (e.1 ∷ leading_to unit es) = rw t at a in
        elim b [ inl is ↦ subst (IsPlain len) (sym is) (All-head P e es plain) | inr r ↦ brought_plain unit x es (All-tail P e es plain) r ]
    | inr n ↦
        let P : (ℕ × StateKinds) → Type 0 = λ f. IsPlain len f.1 in
        brought_plain unit x es (All-tail P e es plain) (rw n at a)
  ]

  module _ (text : List Insn) (text_is : IsText text) (legal : IsLegalFlow text) (notes : Notes) where
    arrived_plain : (unit n : ℕ) → ((v : ℕ) (s : StateKinds) → v < unit → note_at notes v ≡ Some s → IsPlain len s) → (x : StateKinds)
        → Among x (arriving (single len) text notes unit n) → IsPlain len x
    arrived_plain unit n below x a = elim (arrived text notes unit x (single len) n a) [
      | inl first ↦ subst (IsPlain len) (sym first.1) law.entry
      | inr brings ↦
          let b = brings.1 in
          let before = below brings.0 b.state (came_forward text notes unit x text_is legal b).forward b.noted in
          let leads = law.leads brings.0 b.insn b.after (law.transfers b.insn b.state b.after before b.passed) in
          brought_plain unit x (edges brings.0 b.insn b.after) leads b.among
    ]

    states_plain : (end fuel : ℕ) → AreStates (single len) text notes end → (unit : ℕ) (s : StateKinds) → unit < fuel → note_at notes unit ≡ Some s
        → IsPlain len s
    states_plain end zero are unit s l noted = absurd (omega (arith, l))
    states_plain end (suc fuel) are unit s l noted =
        let within : unit < units text = omega (arith, note_within notes unit s noted, are.count) in
        joined_plain s (arriving (single len) text notes unit end) (sym (are.each unit within) ∙ noted)
        (arrived_plain unit end (λ v t k e. states_plain end fuel are v t (omega (arith, k, l)) e))

pub all_fit_lengths : ((len : ℕ) → StaysPlain len) → (bounds : Interval) (text : List Insn) (notes : Notes) → IsText text → IsLegalFlow text
    → AreStates bounds text notes (units text) → AllFitLengths bounds notes
all_fit_lengths law bounds text notes text_is legal are = record { each = λ unit state noted one. each unit state noted one }
  where
    each : (unit : ℕ) (state : StateKinds) → note_at notes unit ≡ Some state → bounds.lo ≡ bounds.hi → IsPlain bounds.lo state
    each unit state noted one =
        let hi_to : ℕ → Interval = λ h. record { lo = bounds.lo; hi = h } in
        let is : bounds ≡ single bounds.lo = ap hi_to (sym one) in
        let states : AreStates (single bounds.lo) text notes (units text) = subst (λ b. AreStates b text notes (units text)) is are in
        states_plain bounds.lo (law bounds.lo) text text_is legal notes (units text) (suc unit) states unit state (omega arith) noted
