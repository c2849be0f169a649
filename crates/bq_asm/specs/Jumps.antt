-- The jump by a distance, where that fits the jump's field.
use Rattle.std.specs.Prelude.{ℕ, ◌-◌, ◌^◌, ℤ, pos, negsuc, Bool, nat_lt, if◌then◌else◌, Option, Some, None}
use Rattle.bq_insn.specs.declared.insn.Insn.{Insn}
use Rattle.bq_insn.specs.declared.insn.Insn.TheVariants as insns
use Rattle.bq_asm.specs.declared.jump.Jump.{Jump}
use Rattle.bq_asm.specs.declared.jump.Jump.TheVariants as jumps

-- the jump by a distance
abbrev pub jump_insn : Jump → ℤ → Insn
jump_insn jumps.Always d = insns.Jump d
jump_insn jumps.Far d = insns.JumpFar d
jump_insn (jumps.Branch w r dst x) d = insns.Branch w r dst x d

-- it fits w bits with its sign
abbrev pub fits : ℕ → ℤ → Bool
fits w (pos n) = nat_lt n (2 ^ (w - 1))
fits w (negsuc n) = nat_lt n (2 ^ (w - 1))

abbrev pub jump_bits : Jump → ℕ
jump_bits jumps.Far = 32
jump_bits _ = 16

abbrev pub jump_by : Jump → ℤ → Option Insn
jump_by j z = if fits (jump_bits j) z then Some (jump_insn j z) else None
