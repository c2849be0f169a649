-- encode: the bytes of a text, 8 for each unit.
use Rattle.std.proofs.Common.{ap, ◌∙◌}
use Rattle.bq_insn.proofs.Writing.{written_more, written_insn, written_none}
use Rattle.bq_insn.proofs.encoder.encode.Goals as goal
use Rattle.bq_insn.proofs.encoder.encode.Goals.{in-Some+in_ok-push_bytes, in_default}

pub loop-slot-preserved : goal.loop-slot-preserved
loop-slot-preserved c =
    let o = c.slot-item.result in
    let before = c.loop-slot.bytes.items in
    let after = c.match-slot.bytes.items in
    written_more c.deref-slot-items.result.now c.loop-slot.slot-index o before after c.loop-slot-test.true c.slot-item.is c.loop-slot.invariant
    (elim c.match-slot.branch [
      | in-Some+in_ok-push_bytes w ↦ written_insn w.in-Some.insn o before after w.in-Some.is (ap (λ v. v.items) w.bytes-is ∙ w.in_ok-push_bytes.ensures)
      | in_default w ↦ written_none o before after w.in_default.is (ap (λ v. v.items) w.bytes-is)
    ])
