-- What the steps of assembling give.
use Rattle.std.specs.Prelude.{◌≡◌, ◌≢◌, ℕ, ◌<◌, List, [], Option, Some, None, min}
use Rattle.bq_insn.specs.declared.insn.Insn.{Insn}
use Rattle.bq_insn.specs.Slots.{units}
use Rattle.bq_asm.specs.declared.fault.AsmFault.{AsmFault}
use Rattle.bq_asm.specs.declared.fault.AsmFault.TheVariants.{Syntax, BadLength, TooLong, OutOfMemory}
use Rattle.bq_asm.specs.Source.{IsFault}

-- a line of no form, or want of memory
abbrev pub IsReadFault : List ℕ → AsmFault → Type 0
IsReadFault source (Syntax line) = IsFault source (Syntax line)
IsReadFault source OutOfMemory = IsFault source OutOfMemory
IsReadFault source _ = ⊥

-- No instruction, or too many. Memory runs out only where neither is so.
abbrev pub IsLengthFault : List Insn → AsmFault → Type 0
IsLengthFault t BadLength = t ≡ []
IsLengthFault t TooLong = 4096 < units t
IsLengthFault t OutOfMemory = (t ≢ []) × (units t < 4097)
IsLengthFault t _ = ⊥

-- the lesser number, where there is one
abbrev pub least : Option ℕ → Option ℕ → Option ℕ
least None b = b
least (Some a) None = Some a
least (Some a) (Some b) = Some (min a b)
