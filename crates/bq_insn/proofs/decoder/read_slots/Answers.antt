-- read_slots: for each unit of the bytes the instruction that begins there.
use Rattle.std.proofs.Common.{◌≡◌, ◌∙◌, length, ap, sym, rules}
use Rattle.bq_insn.specs.Fault.{front_fault}
use Rattle.bq_insn.proofs.Reading.{shorter, read_more, faulty}
use Rattle.bq_insn.proofs.decoder.read_slots.Goals as goal

pub loop-fields-smaller : goal.loop-fields-smaller
loop-fields-smaller c = shorter c.loop-fields.remaining.now _ c.in-Ok.insn c.in-Ok.after.now c.in-Some.ensures.spelled c.in-Ok.ensures.spelled

pub loop-fields-preserved : goal.loop-fields-preserved
loop-fields-preserved c =
    read_more c.args.bytes.now c.loop-fields.slots.items c.push_insn.new.slots.items c.loop-fields.remaining.now c.in-Ok.after.now c.in-Ok.insn
    c.loop-fields.invariant c.in-Ok.ensures.insn (c.in-Some.ensures.spelled ∙ c.in-Ok.ensures.spelled) c.in_ok-push_insn-in-Ok.ensures.pushed

pub returns-in-Err-clause-fault : goal.returns-in-Err-clause-fault
returns-in-Err-clause-fault c =
    let e : c.len.result ≡ length c.loop-fields.slots.items = search rules in
    let same = ap (λ n. front_fault n c.in-Some.fields c.in-Some.rest.now) (sym e) in
    faulty c.args.bytes.now c.loop-fields.slots.items c.loop-fields.remaining.now c.in-Some.fields c.in-Some.rest.now c.in-Err.fault
    c.loop-fields.invariant c.in-Some.ensures.found c.in-Some.ensures.spelled (same ∙ c.in-Err.ensures.fault)
