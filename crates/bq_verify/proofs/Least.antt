-- The states of a text are the least that pass; where a rule is broken in them no notes pass. By induction over the
-- units: what arrives at a unit is below the note there of any notes that pass, since from less an instruction leaves
-- less: by the laws that covering orders the states and that transfers, edges and joins are monotone. They speak of
-- states of eleven kinds whose ranges are of words, and the entry's is one.
use Rattle.std.proofs.Common.{◌≡◌, ℕ, zero, suc, ◌<◌, List, [], ◌∷◌, Some, sym, subst, ◌∙◌, refl, arith, inl, inr}
use Rattle.std.specs.Prelude.{◌≢◌, ◌==◌, Ok, Err}
use Rattle.std.specs.List.{fold}
use Rattle.std.proofs.lemmas.Bool.{cases_Bool, eqb-true}
use Rattle.bq_insn.specs.Slots.{units, IsText}
use Rattle.bq_insn.specs.declared.insn.Insn.{Insn}
use Rattle.bq_flow.specs.Paths.{Among}
use Rattle.bq_flow.proofs.Units.{insn_within}
use Rattle.bq_flow.proofs.Legal.{not_legal}
use Rattle.bq_range.specs.Interval.{Interval}
use Rattle.bq_state.specs.declared.rule.Rule.{Rule}
use Rattle.bq_state.specs.Kinds.{StateKinds, AreLengths, StateCovers, join_states, entry_state}
use Rattle.bq_state.specs.Edges.{edges}
use Rattle.bq_state.specs.Monotone.{IsFullState, IsAbove, SomeCovers, AreEdgesAbove, StatesAreOrdered, StatesAreMonotone}
use Rattle.bq_sound.specs.Passes.{note_at, NoteCovers, AllCovered, Passes}
use Rattle.bq_sound.proofs.Along.{note_within}
use Rattle.bq_sound.proofs.Progress.{is_insn}
use Rattle.bq_sound.proofs.Rules.{same_state}
use Rattle.bq_check.specs.declared.fault.CheckFault.{CheckFault}
use Rattle.bq_check.specs.declared.fault.CheckFault.TheVariants.{WrongCount, Flow, NoteForm, Entry, Rule as BrokenAt, NotCovered, OutOfMemory}
use Rattle.bq_verify.specs.States.{joined, leading_to, arriving, AreStates}
use Rattle.bq_verify.specs.Refused.{IsFirstBroken, IsRefused}
use Rattle.bq_verify.specs.Least.{AreLeast, NonePass}
use Rattle.bq_verify.proofs.Notes.{Notes, same_note, no_note}
use Rattle.bq_verify.proofs.Arrivals.{Brings, came_forward, arrived}

no_rule : (a : StateKinds) (rule : Rule) → Ok a ≡ Err rule → ⊥
no_rule a rule e = cc

-- notes of a text that pass
module _ (order : StatesAreOrdered) (monotone : StatesAreMonotone) {bounds : Interval} (lengths : AreLengths bounds) {text : List Insn} {others : Notes}
    (text_is : IsText text) (passes : Passes bounds text others) where
  -- a state that the note at a unit covers
  record Below (unit : ℕ) (state : StateKinds) : Type 0 where
    note : StateKinds
    there : note_at others unit ≡ Some note
    covers : StateCovers note state
    full : IsFullState state

  join_below : (unit : ℕ) (a b : StateKinds) → Below unit a → Below unit b → Below unit (join_states a b)
  join_below unit a b x y =
      let is : y.note ≡ x.note = same_note y.note x.note (sym y.there ∙ x.there) in
      record {
        note = x.note;
        there = x.there;
        covers = order.least a b x.note (x.full.count ∙ sym y.full.count) x.covers (subst (λ n. StateCovers n b) is y.covers);
        full = (monotone.joins x.note y.note a b (x.covers, x.full) (y.covers, y.full)).1;
      }

  fold_below : (unit : ℕ) (s : StateKinds) (xs : List StateKinds) → Below unit s → ((x : StateKinds) → Among x xs → Below unit x)
      → Below unit (fold join_states s xs)
  fold_below unit s [] h all = h
  fold_below unit s (x ∷ xs) h all = fold_below unit (join_states s x) xs (join_below unit s x h (all x (inl refl))) (λ y a. all y (inr a))

  joined_below : (unit : ℕ) (s : StateKinds) (xs : List StateKinds) → joined xs ≡ Some s → ((x : StateKinds) → Among x xs → Below unit x) → Below unit s
  joined_below unit s [] e all = absurd (no_note s e)
  joined_below unit s (x ∷ xs) e all =
      subst (Below unit) (same_note (fold join_states x xs) s e) (fold_below unit x xs (all x (inl refl)) (λ y a. all y (inr a)))

  -- an edge to a unit, below one whose state the note there covers
  edge_below : (e : ℕ × StateKinds) (fs : List (ℕ × StateKinds)) → IsFullState e.1 → SomeCovers fs e → AllCovered others fs → Below e.0 e.1
  edge_below e [] full h all = absurd h
  edge_below e (f ∷ fs) full (inl h) all =
      let c = all.0 in
      let covers = order.through c.note f.1 e.1 c.covers h.1 in
      record { note = c.note; there = subst (λ v. note_at others v ≡ Some c.note) h.0 c.there; covers = covers; full = full }
  edge_below e (f ∷ fs) full (inr h) all = edge_below e fs full h all.1

  -- what edges bring to a unit is below the note there, where these edges lie below others that the notes cover
  brought_below : (unit : ℕ) (x : StateKinds) (es fs : List (ℕ × StateKinds)) → AreEdgesAbove fs es → AllCovered others fs
      → Among x (leading_to unit es) → Below unit x
  brought_below unit x [] fs h all a = absurd a
  brought_below unit x (e ∷ es) fs h all a = elim (cases_Bool (e.0 == unit)) [
    | inl t ↦
        let b : Among x (e.1 ∷ leading_to unit es) = rw t at a in
        let here : Below unit e.1 = subst (λ v. Below v e.1) (eqb-true e.0 unit t) (edge_below e fs h.0 h.1 all) in
        elim b [ inl is ↦ subst (Below unit) (sym is) here | inr r ↦ brought_below unit x es fs h.2 all r ]
    | inr n ↦ brought_below unit x es fs h.2 all (rw n at a)
  ]

  -- what an instruction leaves of a state below a note is below the notes where it leads
  led_below : {notes : Notes} {n unit : ℕ} {x : StateKinds} (b : Brings text notes n unit x) → Below n b.state → Below unit x
  led_below {n = n} {unit = unit} {x = x} b h =
      let fine = passes.fine.each n h.note b.insn (insn_within text n b.insn b.there) h.there b.there in
      let less = monotone.transfers b.insn h.note b.state fine.after (is_insn text n b.insn text_is b.there) (h.covers, h.full) fine.rules in
      let same : less.0 ≡ b.after = same_state less.0 b.after (sym less.1 ∙ b.passed) in
      let above : IsAbove fine.after b.after = subst (IsAbove fine.after) same less.2 in
      brought_below unit x (edges n b.insn b.after) (edges n b.insn fine.after) (monotone.leads n b.insn fine.after b.after above) fine.covered b.among

  entry_below : Below 0 (entry_state bounds)
  entry_below = record { note = passes.entry.note; there = passes.entry.there; covers = passes.entry.covers; full = monotone.entry bounds lengths }

  arrived_below : (notes : Notes) (unit n : ℕ) → ((v : ℕ) (s : StateKinds) → v < unit → note_at notes v ≡ Some s → Below v s) → (x : StateKinds)
      → Among x (arriving bounds text notes unit n) → Below unit x
  arrived_below notes unit n below x a = elim (arrived text notes unit x bounds n a) [
    | inl first ↦ subst (Below unit) (sym first.1) (subst (λ u. Below u (entry_state bounds)) (sym first.0) entry_below)
    | inr brings ↦
        let b = brings.1 in
        led_below b (below brings.0 b.state (came_forward text notes unit x text_is passes.flow b).forward b.noted)
  ]

  states_below : (notes : Notes) (end fuel : ℕ) → AreStates bounds text notes end → (unit : ℕ) (s : StateKinds) → unit < fuel
      → note_at notes unit ≡ Some s → Below unit s
  states_below notes end zero are unit s l noted = absurd (omega (arith, l))
  states_below notes end (suc fuel) are unit s l noted =
      let within : unit < units text = omega (arith, note_within notes unit s noted, are.count) in
      joined_below unit s (arriving bounds text notes unit end) (sym (are.each unit within) ∙ noted)
      (arrived_below notes unit end (λ v t k e. states_below notes end fuel are v t (omega (arith, k, l)) e))

  -- each of the states is covered by the note there of any notes that pass
  state_below : (notes : Notes) (unit : ℕ) (state : StateKinds) → AreStates bounds text notes (units text) → note_at notes unit ≡ Some state
      → NoteCovers others (unit, state)
  state_below notes unit state are noted =
      let b = states_below notes (units text) (suc unit) are unit state (omega arith) noted in
      record { note = b.note; there = b.there; covers = b.covers }

  -- what breaks a rule in its state breaks one in the state of any notes
  none_broken : (unit : ℕ) (rule : Rule) → IsFirstBroken bounds text unit rule → ⊥
  none_broken unit rule h =
      let b = states_below h.notes unit (suc unit) h.states unit h.state (omega arith) h.noted in
      let fine = passes.fine.each unit b.note h.insn (insn_within text unit h.insn h.there) b.there h.there in
      let less = monotone.transfers h.insn b.note h.state fine.after (is_insn text unit h.insn text_is h.there) (b.covers, b.full) fine.rules in
      no_rule less.0 rule (sym less.1 ∙ h.broken)

  none_refused : (fault : CheckFault) → IsRefused bounds text fault → fault ≢ OutOfMemory → ⊥
  none_refused (Flow unit rule) h other = not_legal text unit rule h passes.flow
  none_refused (BrokenAt unit rule) h other = none_broken unit rule h.1
  none_refused OutOfMemory h other = other refl
  none_refused WrongCount h other = h
  none_refused (NoteForm unit) h other = h
  none_refused Entry h other = h
  none_refused (NotCovered unit) h other = h

pub are_least : StatesAreOrdered → StatesAreMonotone → (bounds : Interval) (text : List Insn) (notes : Notes) → AreLengths bounds → IsText text
    → AreStates bounds text notes (units text) → AreLeast bounds text notes
are_least order monotone bounds text notes lengths text_is are = record {
  each = λ others unit state passes noted. state_below order monotone lengths text_is passes notes unit state are noted;
}

pub none_pass : StatesAreOrdered → StatesAreMonotone → (bounds : Interval) (text : List Insn) (fault : CheckFault) → AreLengths bounds → IsText text
    → IsRefused bounds text fault → fault ≢ OutOfMemory → NonePass bounds text
none_pass order monotone bounds text fault lengths text_is refused other = λ notes passes.
    none_refused order monotone lengths text_is passes fault refused other
