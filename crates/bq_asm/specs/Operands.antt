-- The operands of an instruction, each as it is written. An operand has one text.
use Rattle.std.specs.Prelude.{ℕ, suc, ℤ, pos, negsuc, List, [], ◌∷◌, ◌++◌, codes}
use Rattle.std.specs.Fmt.{decimal, signed_decimal}
use Rattle.bq_insn.specs.declared.insn.Operand.{Operand}
use Rattle.bq_insn.specs.declared.insn.Operand.TheVariants as operands
use Rattle.bq_insn.specs.declared.insn.Insn.{Insn}
use Rattle.bq_insn.specs.declared.insn.Insn.TheVariants as insns
pub use Rattle.bq_asm.specs.Jumps.{jump_insn}
use Rattle.bq_asm.specs.declared.mnemonic.Mnemonic.{Mnemonic}
use Rattle.bq_asm.specs.declared.mnemonic.Mnemonic.TheVariants as mnemonics
use Rattle.bq_asm.specs.declared.jump.Jump.{Jump}
use Rattle.bq_asm.specs.declared.jump.Jump.TheVariants as jumps

-- `r0` to `r10`
abbrev pub register : ℕ → List ℕ
register r = codes "r" ++ decimal r

-- a register, or a number with its sign if that is minus
abbrev pub operand : Operand → List ℕ
operand (operands.Register r) = register r
operand (operands.Number z) = signed_decimal z

-- a number with its sign, whichever it is
abbrev pub distance : ℤ → List ℕ
distance (pos n) = codes "+" ++ decimal n
distance (negsuc n) = codes "-" ++ decimal (suc n)

-- `[r1+16]`
abbrev pub memory : ℕ → ℤ → List ℕ
memory base offset = codes "[" ++ register base ++ distance offset ++ codes "]"

-- ---- jumps

abbrev pub jump_mnemonic : Jump → Mnemonic
jump_mnemonic jumps.Always = mnemonics.Jump
jump_mnemonic jumps.Far = mnemonics.JumpFar
jump_mnemonic (jumps.Branch w r dst x) = mnemonics.Branch w r

-- the operands of a jump to this target
abbrev pub jump_operands : Jump → List ℕ → List (List ℕ)
jump_operands (jumps.Branch w r dst x) target = register dst ∷ operand x ∷ target ∷ []
jump_operands _ target = target ∷ []

-- ---- instructions

abbrev pub mnemonic_of : Insn → Mnemonic
mnemonic_of (insns.Alu w op d x) = mnemonics.Alu w op
mnemonic_of (insns.Negate w d) = mnemonics.Negate w
mnemonic_of (insns.Extend e d s) = mnemonics.Extend e
mnemonic_of (insns.Order o b d) = mnemonics.Order o b
mnemonic_of (insns.Jump d) = mnemonics.Jump
mnemonic_of (insns.JumpFar d) = mnemonics.JumpFar
mnemonic_of (insns.Branch w r d x o) = mnemonics.Branch w r
mnemonic_of insns.Exit = mnemonics.Exit
mnemonic_of (insns.Load z d b o) = mnemonics.Load z
mnemonic_of (insns.LoadSigned z d b o) = mnemonics.LoadSigned z
mnemonic_of (insns.Store z b o x) = mnemonics.Store z
mnemonic_of (insns.Wide d v) = mnemonics.Wide

abbrev pub operands_of : Insn → List (List ℕ)
operands_of (insns.Alu w op d x) = register d ∷ operand x ∷ []
operands_of (insns.Negate w d) = register d ∷ []
operands_of (insns.Extend e d s) = register d ∷ register s ∷ []
operands_of (insns.Order o b d) = register d ∷ []
operands_of (insns.Jump d) = distance d ∷ []
operands_of (insns.JumpFar d) = distance d ∷ []
operands_of (insns.Branch w r d x o) = register d ∷ operand x ∷ distance o ∷ []
operands_of insns.Exit = []
operands_of (insns.Load z d b o) = register d ∷ memory b o ∷ []
operands_of (insns.LoadSigned z d b o) = register d ∷ memory b o ∷ []
operands_of (insns.Store z b o x) = memory b o ∷ operand x ∷ []
operands_of (insns.Wide d v) = register d ∷ decimal v ∷ []
