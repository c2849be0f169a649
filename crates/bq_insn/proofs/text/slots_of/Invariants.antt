use Rattle.std.proofs.Common.{◌≡◌, take}
use Rattle.std.specs.List.{AllByRecursion}
use Rattle.bq_insn.specs.Insn.{IsInsn}
use Rattle.bq_insn.specs.Slots.{slots}
use Rattle.bq_insn.proofs.text.slots_of.Given as goal

abbrev pub invariant-loop-insn : goal.invariant-loop-insn
invariant-loop-insn l = (l.slots.items ≡ slots (take l.insn-index l.insns)) × AllByRecursion IsInsn (take l.insn-index l.insns)
