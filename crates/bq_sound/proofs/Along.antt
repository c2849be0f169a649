-- An edge of an instruction leads to a successor, and to a note that covers its state.
use Rattle.std.proofs.Common.{◌≡◌, ℕ, ◌+◌, ◌<◌, ◌≤◌, length, refl, sym, ap, ◌∙◌, subst, inl, inr, arith, List, [], ◌∷◌, Option, Some, None, true, false}
use Rattle.std.specs.Prelude.{ℤ, pos}
use Rattle.std.proofs.lemmas.Bool.{cases_lt}
use Rattle.std.proofs.lemmas.List.{get_or_past}
use Rattle.bq_insn.specs.Slots.{units, insn_at}
use Rattle.bq_insn.specs.declared.insn.Insn.{Insn}
use Rattle.bq_insn.specs.declared.insn.Insn.TheVariants as insns
use Rattle.bq_flow.specs.Paths.{Among, IsLegalFlow}
use Rattle.bq_flow.specs.Successors.{successors, destination}
use Rattle.bq_flow.proofs.Units.{insn_within}
use Rattle.bq_flow.proofs.Words.{in_words}
use Rattle.bq_meaning.specs.Meaning.{target}
use Rattle.bq_state.specs.Kinds.{StateKinds}
use Rattle.bq_state.specs.Edges.{refined, along, edges}
use Rattle.bq_sound.specs.Passes.{note_at, NoteCovers, AllCovered}
use Rattle.forms.proofs.Lists.{among_either}

-- a unit that has a state is one of the notes
pub note_within : (notes : List (Option StateKinds)) (unit : ℕ) (state : StateKinds) → note_at notes unit ≡ Some state → unit < length notes
note_within notes unit state e = elim (cases_lt unit (length notes)) [
  | inl l ↦ l
  | inr g ↦ let none : note_at notes unit ≡ None = get_or_past notes unit None g in cc
]

pub among_covered : (notes : List (Option StateKinds)) (es : List (ℕ × StateKinds)) (e : ℕ × StateKinds) → AllCovered notes es → Among e es → NoteCovers notes e
among_covered notes [] e h a = absurd a
among_covered notes (x ∷ es) e h (inl is) = subst (NoteCovers notes) (sym is) h.0
among_covered notes (x ∷ es) e h (inr a) = among_covered notes es e h.1 a

along_unit : (unit : ℕ) (o : Option StateKinds) (e : ℕ × StateKinds) → Among e (along unit o) → e.0 ≡ unit
along_unit unit None e h = absurd h
along_unit unit (Some state) e (inl is) = ap (λ (x : ℕ × StateKinds). x.0) is
along_unit unit (Some state) e (inr h) = absurd h

only : (unit : ℕ) (state : StateKinds) (e : ℕ × StateKinds) → Among e ((unit, state) ∷ []) → pos e.0 ≡ pos unit
only unit state e (inl is) = ap (λ (x : ℕ × StateKinds). pos x.0) is
only unit state e (inr h) = absurd h

-- a unit of a text
module _ (text : List Insn) (unit : ℕ) where
  -- a legal jump leads to the unit that its destination names
  lands : (i : Insn) (distance : ℤ) → units text ≤ 4096 → IsLegalFlow text → insn_at text unit ≡ Some i
      → Among (destination unit distance) (successors unit i) → pos (target unit distance) ≡ destination unit distance
  lands i distance few legal there among =
      let f = legal.each unit i (destination unit distance) there among in
      let here = insn_within text unit i there in
      let next = insn_within text f.next f.insn f.begins in
      ap pos (in_words unit f.next distance (omega (arith, here, few)) (omega (arith, next, few)) f.is) ∙ sym f.is

  pub along_successors : (i : Insn) (after : StateKinds) (e : ℕ × StateKinds) → units text ≤ 4096 → IsLegalFlow text → insn_at text unit ≡ Some i
      → Among e (edges unit i after) → Among (pos e.0) (successors unit i)
  along_successors (insns.Jump distance) after e few legal there h =
      inl (only (target unit distance) after e h ∙ lands (insns.Jump distance) distance few legal there (inl refl))
  along_successors (insns.JumpFar distance) after e few legal there h =
      inl (only (target unit distance) after e h ∙ lands (insns.JumpFar distance) distance few legal there (inl refl))
  along_successors (insns.Branch w r d x distance) after e few legal there h =
      elim (among_either e (along (unit + 1) (refined after w r false d x)) (along (target unit distance) (refined after w r true d x)) h) [
        | inl l ↦ inl (ap pos (along_unit (unit + 1) (refined after w r false d x) e l))
        | inr g ↦
            let is = along_unit (target unit distance) (refined after w r true d x) e g in
            inr (inl (ap pos is ∙ lands (insns.Branch w r d x distance) distance few legal there (inr (inl refl))))
      ]
  along_successors insns.Exit after e few legal there h = absurd h
  along_successors (insns.Wide d v) after e few legal there h = inl (only (unit + 2) after e h)
  along_successors i after e few legal there h = inl (only (unit + 1) after e h)
