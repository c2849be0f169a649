-- What a line says.
use Rattle.std.specs.Prelude.{ℕ, List}
use Rattle.bq_insn.specs.declared.insn.Insn.{Insn}
use Rattle.bq_asm.specs.declared.jump.Jump.{Jump}

-- an instruction, or a jump to a label
pub data Statement : Type 0 where
  Complete : Insn → Statement
  JumpTo : Jump → List ℕ → Statement

-- nothing, the name of a label, or a statement
pub data Line : Type 0 where
  Blank : Line
  Label : List ℕ → Line
  Instruction : Statement → Line
