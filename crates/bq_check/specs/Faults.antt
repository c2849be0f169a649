-- The first fault of notes that do not pass for records of the lengths l: 21, the flow's, 31, 22, and then the units
-- with a state in rising order.
use Rattle.std.specs.Prelude.{◌≡◌, ◌≢◌, ℕ, ◌<◌, List, length, Option, Some, Ok, Err}
use Rattle.bq_insn.specs.Slots.{units, insn_at}
use Rattle.bq_insn.specs.declared.insn.Insn.{Insn}
use Rattle.bq_flow.specs.Paths.{IsLegalFlow}
use Rattle.bq_flow.specs.Faults.{IsFirstFlowFault}
use Rattle.bq_range.specs.Interval.{Interval}
use Rattle.bq_state.specs.Kinds.{StateKinds, entry_state}
use Rattle.bq_state.specs.Rules.{transfer}
use Rattle.bq_state.specs.Edges.{edges}
use Rattle.bq_check.specs.declared.fault.CheckFault.{CheckFault}
use Rattle.bq_check.specs.declared.fault.CheckFault.TheVariants.{WrongCount, Flow, NoteForm, Entry, Rule, NotCovered, OutOfMemory}
use Rattle.bq_sound.specs.Passes.{note_at, NoteCovers, AllCovered, FitsLengths, AllFine}

-- a unit below which all is fine, with a state and an instruction
pub record IsReached (text : List Insn) (notes : List (Option StateKinds)) (unit : ℕ) (i : Insn) (state : StateKinds) : Type 0 where
  pub below : AllFine text notes unit
  pub noted : note_at notes unit ≡ Some state
  pub there : insn_at text unit ≡ Some i

-- a state may stand at a unit: an instruction begins there, and the state fits the lengths
pub record MayHaveState (l : Interval) (text : List Insn) (unit : ℕ) (state : StateKinds) : Type 0 where
  pub begins : (i : Insn) × (insn_at text unit ≡ Some i)
  pub fits : FitsLengths l state

-- all states below this unit may stand where they do
pub record AllMayHaveStates (l : Interval) (text : List Insn) (notes : List (Option StateKinds)) (n : ℕ) : Type 0 where
  pub each : (unit : ℕ) (state : StateKinds) → unit < n → note_at notes unit ≡ Some state → MayHaveState l text unit state

-- a unit with a state that may not stand there, and none below it
pub record IsFirstWrongState (l : Interval) (text : List Insn) (notes : List (Option StateKinds)) (unit : ℕ) : Type 0 where
  pub below : AllMayHaveStates l text notes unit
  pub state : StateKinds
  pub noted : note_at notes unit ≡ Some state
  pub wrong : MayHaveState l text unit state → ⊥

-- what holds where the units are looked at one by one
pub record IsOpened (l : Interval) (text : List Insn) (notes : List (Option StateKinds)) : Type 0 where
  pub count : length notes ≡ units text
  pub flow : IsLegalFlow text
  pub standing : AllMayHaveStates l text notes (units text)
  pub entry : NoteCovers notes (0, entry_state l)

-- what is wrong with the instruction at a unit with a state
abbrev pub IsUnitFault : List (Option StateKinds) → ℕ → Insn → StateKinds → CheckFault → Type 0
IsUnitFault notes unit i state (Rule at rule) = (at ≡ unit) × (transfer i state ≡ Err rule)
IsUnitFault notes unit i state (NotCovered at) = (at ≡ unit) × ((after : StateKinds) × (transfer i state ≡ Ok after) × (AllCovered notes (edges unit i after) → ⊥))
IsUnitFault notes unit i state f = ⊥

abbrev pub IsFirstFault : Interval → List Insn → List (Option StateKinds) → CheckFault → Type 0
IsFirstFault l text notes WrongCount = length notes ≢ units text
IsFirstFault l text notes (Flow unit rule) = (length notes ≡ units text) × IsFirstFlowFault text unit rule
IsFirstFault l text notes (NoteForm unit) = (length notes ≡ units text) × IsLegalFlow text × IsFirstWrongState l text notes unit
IsFirstFault l text notes Entry =
    (length notes ≡ units text) × IsLegalFlow text × AllMayHaveStates l text notes (units text) × (NoteCovers notes (0, entry_state l) → ⊥)
IsFirstFault l text notes (Rule unit rule) =
    IsOpened l text notes × ((i : Insn) × (state : StateKinds) × IsReached text notes unit i state × (transfer i state ≡ Err rule))
IsFirstFault l text notes (NotCovered unit) =
    IsOpened l text notes × ((i : Insn) × (state : StateKinds) × (after : StateKinds) × IsReached text notes unit i state × (transfer i state ≡ Ok after)
    × (AllCovered notes (edges unit i after) → ⊥))
IsFirstFault l text notes OutOfMemory = Unit {0}
