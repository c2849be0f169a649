-- front: the instruction that begins at `unit` with these fields, and what follows it.
use Rattle.bq_insn.proofs.Front.{front_spelled, front_faulty}
use Rattle.bq_insn.proofs.decoder.front.Goals as goal

pub returns-in-Ok-completed-clause-spelled : goal.returns-in-Ok-completed-clause-spelled
returns-in-Ok-completed-clause-spelled c =
    front_spelled c.args.fields.now c.in-Ok.opcode c.insn.result c.in-Ok-completed.insn c.args.rest.now c.in-Ok-completed.after.now
    c.in-Ok.ensures.opcode c.insn.ensures.opcode c.insn.ensures.fields
    c.in-Ok-completed.ensures.opcode c.in-Ok-completed.ensures.first c.in-Ok-completed.ensures.spelled

pub returns-in-Err-completed-clause-fault : goal.returns-in-Err-completed-clause-fault
returns-in-Err-completed-clause-fault c =
    front_faulty c.args.unit c.args.fields.now c.args.rest.now c.in-Ok.opcode c.insn.result c.in-Err-completed.fault
    c.in-Ok.ensures.opcode c.in-Ok.ensures.sound c.insn.ensures.opcode c.in-Err-completed.ensures.fault
