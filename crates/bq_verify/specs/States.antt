-- The states of a text, where records have one of the lengths l: at each unit the join of what its feasible
-- predecessors leave.
use Rattle.std.specs.Prelude.{◌≡◌, ℕ, zero, suc, ◌<◌, ◌==◌, List, [], ◌∷◌, ◌++◌, length, Option, Some, None, Result, Ok, Err, if◌then◌else◌}
use Rattle.std.specs.List.{fold}
use Rattle.bq_insn.specs.Slots.{units, insn_at}
use Rattle.bq_insn.specs.declared.insn.Insn.{Insn}
use Rattle.bq_state.specs.declared.rule.Rule.{Rule}
use Rattle.bq_range.specs.Interval.{Interval}
use Rattle.bq_state.specs.Kinds.{StateKinds, join_states, entry_state}
use Rattle.bq_state.specs.Rules.{transfer}
use Rattle.bq_state.specs.Edges.{edges}
use Rattle.bq_sound.specs.Passes.{note_at}

-- the least state that covers them all; none where there is none
abbrev pub joined : List StateKinds → Option StateKinds
joined [] = None
joined (state ∷ others) = Some (fold join_states state others)

-- the edges that lead on where no rule was broken
abbrev pub edges_after : ℕ → Insn → Result StateKinds Rule → List (ℕ × StateKinds)
edges_after unit i (Ok after) = edges unit i after
edges_after unit i (Err rule) = []

-- the feasible edges from a unit that has a state
abbrev pub edges_from : ℕ → Option Insn → Option StateKinds → List (ℕ × StateKinds)
edges_from unit None _ = []
edges_from unit (Some i) None = []
edges_from unit (Some i) (Some state) = edges_after unit i (transfer i state)

-- the states on those edges that lead to a unit
abbrev pub leading_to : ℕ → List (ℕ × StateKinds) → List StateKinds
leading_to unit [] = []
leading_to unit (edge ∷ others) = (if edge.0 == unit then edge.1 ∷ [] else []) ++ leading_to unit others

-- the states that arrive at a unit from the units below n in rising order; at the first unit the entry's comes before
abbrev pub arriving : Interval → List Insn → List (Option StateKinds) → ℕ → ℕ → List StateKinds
arriving l text notes unit zero = if unit == 0 then entry_state l ∷ [] else []
arriving l text notes unit (suc n) = arriving l text notes unit n ++ leading_to unit (edges_from n (insn_at text n) (note_at notes n))

-- each unit's state is the join of what arrives at it from the units below n
pub record AreStates (l : Interval) (text : List Insn) (notes : List (Option StateKinds)) (n : ℕ) : Type 0 where
  pub count : length notes ≡ units text
  pub each : (unit : ℕ) → unit < units text → note_at notes unit ≡ joined (arriving l text notes unit n)

-- no instruction below n breaks a rule where it has a state
pub record NoRuleBroken (text : List Insn) (notes : List (Option StateKinds)) (n : ℕ) : Type 0 where
  pub each : (unit : ℕ) (i : Insn) (state : StateKinds) → unit < n → insn_at text unit ≡ Some i → note_at notes unit ≡ Some state
      → (after : StateKinds) × (transfer i state ≡ Ok after)
