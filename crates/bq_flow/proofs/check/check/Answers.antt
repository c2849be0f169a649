-- check: the first fault of a text's flow, in rising order of the instructions.
use Rattle.std.proofs.Common.{◌≡◌, ◌∙◌, sym, subst, arith}
use Rattle.bq_insn.specs.Slots.{units}
use Rattle.bq_flow.specs.Faults.{NoFlowFault}
use Rattle.bq_flow.proofs.Legal.{legal, no_more, fine_here}
use Rattle.bq_flow.proofs.check.check.Goals as goal
use Rattle.bq_flow.proofs.check.check.Goals.{in-Some+in_default-flow_fault, in_default}

pub loop-unit-preserved : goal.loop-unit-preserved
loop-unit-preserved c =
    no_more c.args.text.now c.loop-unit.unit c.loop-unit.invariant (λ i there.
    elim c.match-at.branch [
      | in-Some+in_default-flow_fault w ↦
          fine_here c.args.text.now c.loop-unit.unit i w.in-Some.insn there (sym c.at.ensures ∙ w.in-Some.is)
          (sym w.flow_fault.ensures ∙ w.in_default-flow_fault.is)
      | in_default w ↦ absurd (w.in_default.not-Some i (c.at.ensures ∙ there))
    ])

pub returns-clause-legal : goal.returns-clause-legal
returns-clause-legal c =
    let e : c.loop-unit.unit ≡ units c.args.text.now = omega (arith, c.loop-unit.auto.unit-end, c.loop-unit-test.false, c.units-unit-end.ensures.value) in
    legal c.args.text.now (subst (NoFlowFault c.args.text.now) e c.loop-unit.invariant)
