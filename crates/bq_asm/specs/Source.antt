-- The spellings of a text, the one that is written, and the first fault of a source that spells none.
use Rattle.std.specs.Prelude.{◌≡◌, ◌≢◌, ℕ, ◌<◌, ◌==◌, List, [], ◌∷◌, ◌++◌, codes}
use Rattle.std.specs.List.{AllZip, flat_map, slice_split}
use Rattle.reasons.specs.declared.Reason.{Reason}
use Rattle.reasons.specs.declared.Reason.TheVariants as reasons
use Rattle.bq_insn.specs.declared.insn.Insn.{Insn}
use Rattle.bq_insn.specs.Slots.{units}
use Rattle.bq_asm.specs.declared.fault.AsmFault.{AsmFault}
use Rattle.bq_asm.specs.declared.fault.AsmFault.TheVariants.{Syntax, Label, BadLength, TooLong, OutOfMemory}
use Rattle.bq_asm.specs.Mnemonic.{name}
use Rattle.bq_asm.specs.Operands.{mnemonic_of, operands_of}
use Rattle.bq_asm.specs.Line.{Line, Spells}
use Rattle.bq_asm.specs.Labels.{Mean, NoLine, IsFirstLine, IsRepeated, HasLabelFault}

-- ---- spellings

-- The parts between line feeds. Behind a line feed at the end stands an empty part, which says nothing.
abbrev pub lines_of : List ℕ → List (List ℕ)
lines_of source = slice_split (λ c. c == 10) source

-- the lines of a source say this
abbrev pub Says : List ℕ → List Line → Type 0
Says source lines = AllZip Spells (lines_of source) lines

-- the source spells the text
pub record IsSource (source : List ℕ) (t : List Insn) : Type 0 where
  pub lines : List Line
  pub says : Says source lines
  pub once : NoLine IsRepeated [] lines
  pub means : Mean lines t

-- ---- the one spelling that is written

-- operands with a comma and a space between them
abbrev pub listed : List (List ℕ) → List ℕ
listed [] = []
listed (x ∷ []) = x
listed (x ∷ y ∷ xs) = x ++ (codes ", " ++ listed (y ∷ xs))

-- one space behind the mnemonic, if there are operands
abbrev pub spaced : List (List ℕ) → List ℕ
spaced [] = []
spaced xs = codes " " ++ listed xs

-- an instruction on a line of its own
abbrev pub insn_line : Insn → List ℕ
insn_line i = name (mnemonic_of i) ++ (spaced (operands_of i) ++ 10 ∷ [])

abbrev pub disassembly : List Insn → List ℕ
disassembly t = flat_map insn_line t

-- ---- faults

-- the line is of no form
abbrev pub IsUnreadable : List (List ℕ) → List ℕ → List (List ℕ) → Type 0
IsUnreadable before line after = (v : Line) → Spells line v → ⊥

-- What is first wrong with a source. Memory runs out only where the first line is of a form: before that none is asked
-- for.
abbrev pub IsFault : List ℕ → AsmFault → Type 0
IsFault source (Syntax line) = IsFirstLine IsUnreadable [] (lines_of source) line
IsFault source (Label line) = (lines : List Line) × Says source lines × IsFirstLine HasLabelFault [] lines line
IsFault source BadLength = IsSource source []
IsFault source TooLong = (t : List Insn) × IsSource source t × (4096 < units t)
IsFault source OutOfMemory = IsFirstLine IsUnreadable [] (lines_of source) 1 → ⊥

-- a source has one fault at most, besides want of memory
abbrev pub HasOneFault : List ℕ → Type 0
HasOneFault source = (d e : AsmFault) → IsFault source d → IsFault source e → d ≢ OutOfMemory → e ≢ OutOfMemory → d ≡ e

-- ---- the reasons by which faults are told

abbrev pub reason : AsmFault → Reason
reason (Syntax line) = reasons.Syntax
reason (Label line) = reasons.Label
reason BadLength = reasons.BadLength
reason TooLong = reasons.TooLong
reason OutOfMemory = reasons.OutOfMemory
