use Rattle.std.proofs.Common.{◌≡◌, take}
use Rattle.bq_insn.specs.Slots.{spelling, begun}
use Rattle.bq_insn.proofs.encoder.encode.Given as goal

abbrev pub invariant-loop-slot : goal.invariant-loop-slot
invariant-loop-slot l = l.bytes.items ≡ spelling (begun (take l.slot-index l.slot-items))
