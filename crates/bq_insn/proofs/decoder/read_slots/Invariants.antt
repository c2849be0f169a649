use Rattle.std.proofs.Common.{length}
use Rattle.bq_insn.specs.Text.{ReadTo}
use Rattle.bq_insn.proofs.decoder.read_slots.Given as goal

abbrev pub invariant-loop-fields : goal.invariant-loop-fields
invariant-loop-fields l = ReadTo l.bytes l.slots.items l.remaining

abbrev pub decreases-loop-fields : goal.decreases-loop-fields
decreases-loop-fields l = length l.remaining
