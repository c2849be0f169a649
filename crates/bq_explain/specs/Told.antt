-- Of which faults a person is told something, and what is known of the registers there, where records have one of the
-- lengths l.
use Rattle.std.specs.Prelude.{◌≡◌, ◌≢◌, ◌<◌, ◌⊎◌, ℕ, List, Option, Some, None}
use Rattle.bq_insn.specs.declared.insn.Insn.{Insn}
use Rattle.bq_insn.specs.Slots.{IsText, spelling, units}
use Rattle.bq_range.specs.Interval.{Interval}
use Rattle.bq_state.specs.Kinds.{StateKinds}
use Rattle.bq_sound.specs.Passes.{note_at}
use Rattle.bq_check.specs.declared.fault.CheckFault.{CheckFault}
use Rattle.bq_check.specs.declared.fault.CheckFault.TheVariants.{Flow, Rule, OutOfMemory}
use Rattle.bq_verify.specs.Refused.{IsRefused, IsBelow}
use Rattle.bq_verify.specs.Table.{IsFilled}

-- what reaches the unit from those below it
abbrev pub IsReaching : Interval → List Insn → ℕ → Option StateKinds → Type 0
IsReaching l text unit state = unit < units text → (notes : List (Option StateKinds)) × IsFilled l text notes unit × (state ≡ note_at notes unit)

-- the flow is refused, or an instruction below the unit breaks a rule
abbrev pub IsCutOff : Interval → List Insn → ℕ → Type 0
IsCutOff l text unit = (fault : CheckFault) × IsRefused l text fault × IsBelow unit fault × (fault ≢ OutOfMemory)

-- what is known of the registers at a unit: nothing is left out where memory ran out
abbrev pub IsKnown : Interval → List Insn → ℕ → Option StateKinds → Type 0
IsKnown l text unit (Some state) = IsReaching l text unit (Some state)
IsKnown l text unit None = IsReaching l text unit None ⊎ IsCutOff l text unit

-- the fault is of an instruction, which leads where it may not or breaks a rule
abbrev pub IsAtInstruction : CheckFault → Type 0
IsAtInstruction (Flow unit rule) = Unit {0}
IsAtInstruction (Rule unit rule) = Unit {0}
IsAtInstruction fault = ⊥

-- something is told exactly of a fault of an instruction
abbrev pub IsTold : {X : Type 0} → CheckFault → Option X → Type 0
IsTold fault (Some told) = IsAtInstruction fault
IsTold fault None = ¬ (IsAtInstruction fault)

-- the bytes spell no text
abbrev pub IsSpellingNone : List ℕ → Type 0
IsSpellingNone code = (text : List Insn) → IsText text → code ≢ spelling text

-- the bytes spell a text, and something is told exactly of a fault of an instruction; or they spell none
abbrev pub IsToldOfCode : {X : Type 0} → List ℕ → CheckFault → Option X → Type 0
IsToldOfCode code fault told = IsTold fault told ⊎ (IsSpellingNone code × (told ≡ None))
