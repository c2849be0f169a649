-- successors_at: the successors of the instruction that begins at a unit.
use Rattle.std.proofs.Common.{◌≡◌, ◌∙◌, Some}
use Rattle.bq_insn.specs.Slots.{insn_at}
use Rattle.bq_flow.proofs.Legal.{named, are_next}
use Rattle.bq_flow.proofs.successors.successors_at.Goals as goal

pub returns-in-Some-clause-places : goal.returns-in-Some-clause-places
returns-in-Some-clause-places c =
    let there : insn_at c.args.text.now c.args.unit ≡ Some c.in-Some.insn = let v = c.at.ensures in let i = c.in-Some.is in cc in
    let b = c.unit_behind.ensures in
    let j = c.unit_jumped_to.ensures in
    c.new.ensures ∙ rw (b, j) (named c.args.text.now c.requires c.args.unit c.in-Some.insn there)

pub returns-in-Some-clause-next : goal.returns-in-Some-clause-next
returns-in-Some-clause-next c =
    let there : insn_at c.args.text.now c.args.unit ≡ Some c.in-Some.insn = let v = c.at.ensures in let i = c.in-Some.is in cc in
    are_next c.args.text.now c.requires c.args.unit c.in-Some.insn there c.new.result (returns-in-Some-clause-places c)
