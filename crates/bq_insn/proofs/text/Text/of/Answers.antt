-- Text::of: the text of these instructions, in their order: 1 BadLength, 2 TooLong, or 99 in place of a text.
use Rattle.std.proofs.Common.{◌≤◌, length, ap, arith, rules}
use Rattle.bq_insn.proofs.Listed.{same_insns, listed_text, listed_slots, length-units}
use Rattle.bq_insn.proofs.text.Text.of.Goals as goal

pub returns-then-insns-gt-MOST_UNITS-clause-fault : goal.returns-then-insns-gt-MOST_UNITS-clause-fault
returns-then-insns-gt-MOST_UNITS-clause-fault c = omega (arith, length-units c.args.insns.now)

pub returns-clause-same : goal.returns-clause-same
returns-clause-same c = same_insns c.in_ok-slots.slots.items c.args.insns.now c.in_ok-slots.ensures.slots

pub returns-clause-text : goal.returns-clause-text
returns-clause-text c =
    let few : length c.in_ok-slots.slots.items ≤ 4096 = omega (arith, ap length c.in_ok-slots.ensures.slots) in
    listed_text c.in_ok-slots.slots.items c.args.insns.now c.in_ok-slots.ensures.slots c.in_ok-slots.ensures.legal (search rules) few

pub invariant_of-result : goal.invariant_of-result
invariant_of-result c =
    let few : length c.in_ok-slots.slots.items ≤ 4096 = omega (arith, ap length c.in_ok-slots.ensures.slots) in
    listed_slots c.in_ok-slots.slots.items c.args.insns.now c.in_ok-slots.ensures.slots
    (listed_text c.in_ok-slots.slots.items c.args.insns.now c.in_ok-slots.ensures.slots c.in_ok-slots.ensures.legal (search rules) few)
