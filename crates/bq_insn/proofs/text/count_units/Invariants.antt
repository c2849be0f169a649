use Rattle.std.proofs.Common.{◌≡◌, ◌*◌, ◌≤◌, take}
use Rattle.bq_insn.specs.Slots.{units}
use Rattle.bq_insn.proofs.text.count_units.Given as goal

abbrev pub invariant-loop-insn : goal.invariant-loop-insn
invariant-loop-insn l = (l.count ≡ units (take l.insn-index l.insns)) × (l.count ≤ 2 * l.insn-index)
