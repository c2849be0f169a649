-- The table of states that the verifier fills in rising order of the units.
use Rattle.std.specs.Prelude.{ℕ, ◌<◌, length, List, [], ◌∷◌, Option, Some, None, slice_set}
use Rattle.std.specs.List.{fold}
use Rattle.bq_insn.specs.declared.insn.Insn.{Insn}
use Rattle.bq_flow.specs.Paths.{IsLegalFlow}
use Rattle.bq_range.specs.Interval.{Interval}
use Rattle.bq_state.specs.Kinds.{StateKinds, join_states}
use Rattle.bq_sound.specs.Passes.{note_at}
use Rattle.bq_verify.specs.States.{joined, AreStates, NoRuleBroken}

-- the join of what there is and these
abbrev pub extended : Option StateKinds → List StateKinds → Option StateKinds
extended None states = joined states
extended (Some state) states = Some (fold join_states state states)

-- the table, where a state arrives at a unit
abbrev pub with_arrival : List (Option StateKinds) → ℕ × StateKinds → List (Option StateKinds)
with_arrival notes edge = slice_set notes edge.0 (extended (note_at notes edge.0) (edge.1 ∷ []))

-- the table, where the states on these edges arrive in turn
abbrev pub with_arrivals : List (Option StateKinds) → List (ℕ × StateKinds) → List (Option StateKinds)
with_arrivals notes [] = notes
with_arrivals notes (edge ∷ others) = with_arrivals (with_arrival notes edge) others

-- all edges lead to units of the table
abbrev pub AllWithin : List (Option StateKinds) → List (ℕ × StateKinds) → Type 0
AllWithin notes [] = Unit {0}
AllWithin notes (edge ∷ others) = (edge.0 < length notes) × AllWithin notes others

-- the table is right for the units below n, and none of these breaks a rule
pub record IsFilled (l : Interval) (text : List Insn) (notes : List (Option StateKinds)) (n : ℕ) : Type 0 where
  pub legal : IsLegalFlow text
  pub states : AreStates l text notes n
  pub unbroken : NoRuleBroken text notes n
