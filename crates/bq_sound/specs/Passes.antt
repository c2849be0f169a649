-- Which notes pass for a text, where records have one of the lengths l.
use Rattle.std.specs.Prelude.{◌≡◌, ℕ, ◌<◌, ⊤, List, [], ◌∷◌, length, Option, Some, None, Ok, slice_index_or}
use Rattle.bq_insn.specs.Slots.{units, insn_at}
use Rattle.bq_insn.specs.declared.insn.Insn.{Insn}
use Rattle.bq_flow.specs.Paths.{IsLegalFlow}
use Rattle.bq_range.specs.Interval.{Interval}
use Rattle.bq_state.specs.Kinds.{StateKinds, StateCovers, entry_state}
use Rattle.bq_state.specs.Rules.{transfer}
use Rattle.bq_state.specs.Edges.{edges}
use Rattle.bq_state.specs.Plain.{IsPlain}

-- the state that the notes give to a unit
abbrev pub note_at : List (Option StateKinds) → ℕ → Option StateKinds
note_at notes unit = slice_index_or notes unit None

-- the note at a unit covers a state
pub record NoteCovers (notes : List (Option StateKinds)) (edge : ℕ × StateKinds) : Type 0 where
  pub note : StateKinds
  pub there : note_at notes edge.0 ≡ Some note
  pub covers : StateCovers note edge.1

abbrev pub AllCovered : List (Option StateKinds) → List (ℕ × StateKinds) → Type 0
AllCovered notes [] = ⊤
AllCovered notes (edge ∷ more) = NoteCovers notes edge × AllCovered notes more

-- no second half of a wide instruction below this unit has a state
pub record NoHalves (text : List Insn) (notes : List (Option StateKinds)) (n : ℕ) : Type 0 where
  pub each : (unit : ℕ) (state : StateKinds) → unit < n → note_at notes unit ≡ Some state → (i : Insn) × (insn_at text unit ≡ Some i)

-- where records have one length alone a state knows that length, and no register as a length
abbrev pub FitsLengths : Interval → StateKinds → Type 0
FitsLengths l state = l.lo ≡ l.hi → IsPlain l.lo state

pub record AllFitLengths (l : Interval) (notes : List (Option StateKinds)) : Type 0 where
  pub each : (unit : ℕ) (state : StateKinds) → note_at notes unit ≡ Some state → FitsLengths l state

-- at a unit with a state the instruction breaks no rule, and each feasible successor's state covers what it leaves
pub record IsFine (notes : List (Option StateKinds)) (unit : ℕ) (i : Insn) (state : StateKinds) : Type 0 where
  pub after : StateKinds
  pub rules : transfer i state ≡ Ok after
  pub covered : AllCovered notes (edges unit i after)

-- all units below this one that have a state are fine
pub record AllFine (text : List Insn) (notes : List (Option StateKinds)) (n : ℕ) : Type 0 where
  pub each : (unit : ℕ) (state : StateKinds) (i : Insn) → unit < n → note_at notes unit ≡ Some state → insn_at text unit ≡ Some i → IsFine notes unit i state

-- one note for each unit, none at a second half; the flow is legal; the notes fit the lengths; the note at 0
-- covers the entry; all units are fine
pub record Passes (l : Interval) (text : List Insn) (notes : List (Option StateKinds)) : Type 0 where
  pub count : length notes ≡ units text
  pub flow : IsLegalFlow text
  pub halves : NoHalves text notes (units text)
  pub fits : AllFitLengths l notes
  pub entry : NoteCovers notes (0, entry_state l)
  pub fine : AllFine text notes (units text)
