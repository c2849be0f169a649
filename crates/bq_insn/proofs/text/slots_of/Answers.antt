-- slots_of: the units of instructions.
use Rattle.std.proofs.Common.{rules}
use Rattle.std.proofs.lemmas.List.{take_more}
use Rattle.bq_insn.proofs.Listed.{listed_more}
use Rattle.bq_insn.proofs.text.slots_of.Goals as goal

pub loop-insn-preserved : goal.loop-insn-preserved
loop-insn-preserved c =
    listed_more c.args.insns.now c.loop-insn.insn-index c.insn-item.result c.loop-insn.slots.items c.push_insn.new.slots.items
    (search (rules, take_more)) c.loop-insn.invariant c.in_ok-push_insn.ensures.pushed c.push_insn.ensures.legal
