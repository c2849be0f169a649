-- Labels: which line a jump's name means, and the instructions that lines mean.
use Rattle.std.specs.Prelude.{◌≡◌, ℕ, ◌+◌, ◌^◌, ◌<◌, pos, List, [], ◌∷◌, ◌++◌, length, Option, Some, None, option_map, if◌then◌else◌, ◌⊎◌}
use Rattle.std.specs.Str.{bytes_eq}
use Rattle.bq_insn.specs.declared.insn.Insn.{Insn}
use Rattle.bq_insn.specs.Slots.{units}
use Rattle.bq_asm.specs.declared.jump.Jump.{Jump}
use Rattle.bq_asm.specs.declared.jump.Jump.TheVariants as jumps
use Rattle.bq_asm.specs.Jumps.{jump_insn}
use Rattle.bq_asm.specs.Statement.{Statement, Complete, JumpTo, Line, Blank, Label, Instruction}

-- ---- places

-- the units of a statement: a jump has one
abbrev pub statement_units : Statement → ℕ
statement_units (Complete i) = units (i ∷ [])
statement_units (JumpTo j label) = 1

-- how many units stand in these lines before the first that defines a name
abbrev pub units_before : List ℕ → List Line → Option ℕ
units_before label [] = None
units_before label (Blank ∷ lines) = units_before label lines
units_before label (Label other ∷ lines) = if bytes_eq label other then Some 0 else units_before label lines
units_before label (Instruction s ∷ lines) = option_map (λ d. statement_units s + d) (units_before label lines)

-- ---- meaning

-- the least distance forward that a jump's field does not hold
abbrev pub reach : Jump → ℕ
reach jumps.Far = 2 ^ 31
reach _ = 2 ^ 15

-- The instruction that a statement means, before these lines. The distance of a jump is counted from the next
-- instruction.
abbrev pub Means : Statement → List Line → Insn → Type 0
Means (Complete i) later insn = insn ≡ i
Means (JumpTo j label) later insn = (d : ℕ) × (units_before label later ≡ Some d) × (d < reach j) × (insn ≡ jump_insn j (pos d))

-- the instructions that lines mean, in order
abbrev pub Mean : List Line → List Insn → Type 0
Mean [] t = t ≡ []
Mean (Instruction s ∷ lines) [] = ⊥
Mean (Instruction s ∷ lines) (i ∷ t) = Means s lines i × Mean lines t
Mean (_ ∷ lines) t = Mean lines t

-- ---- the least line of a kind

-- P speaks of the lines before, of the line, and of the lines behind it
module _ {A : Type 0} (P : List A → A → List A → Type 0) where
  -- no line is P
  abbrev pub NoLine : List A → List A → Type 0
  NoLine before [] = Unit {0}
  NoLine before (line ∷ after) = (P before line after → ⊥) × NoLine (before ++ line ∷ []) after

  -- n is the number of the least line that is P, of which the first has number 1
  abbrev pub IsFirstLine : List A → List A → ℕ → Type 0
  IsFirstLine before [] n = ⊥
  IsFirstLine before (line ∷ after) n = (P before line after × (n ≡ length before + 1))
      ⊎ ((P before line after → ⊥) × IsFirstLine (before ++ line ∷ []) after n)

-- ---- what can be wrong with a label

-- a line among these defines the name
abbrev pub IsDefined : List ℕ → List Line → Type 0
IsDefined label [] = ⊥
IsDefined label (line ∷ lines) = (line ≡ Label label) ⊎ IsDefined label lines

-- the line defines a name a second time
abbrev pub IsRepeated : List Line → Line → List Line → Type 0
IsRepeated before (Label label) after = IsDefined label before
IsRepeated before _ after = ⊥

-- the line jumps to a name that no later line defines, or that is too far for the jump's field
abbrev pub IsUnresolved : List Line → Line → List Line → Type 0
IsUnresolved before (Instruction s) after = (i : Insn) → Means s after i → ⊥
IsUnresolved before _ after = ⊥

abbrev pub HasLabelFault : List Line → Line → List Line → Type 0
HasLabelFault before line after = IsRepeated before line after ⊎ IsUnresolved before line after
