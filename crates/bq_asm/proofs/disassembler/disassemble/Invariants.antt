use Rattle.std.proofs.Common.{◌≡◌, take}
use Rattle.std.specs.String.{string_bytes}
use Rattle.bq_insn.specs.Slots.{slots, begun}
use Rattle.bq_asm.specs.Source.{disassembly}
use Rattle.bq_asm.proofs.disassembler.disassemble.Given as goal

abbrev pub invariant-loop-unit : goal.invariant-loop-unit
invariant-loop-unit l = string_bytes l.out ≡ disassembly (begun (take l.unit (slots l.text)))
