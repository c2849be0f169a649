-- check_units: whether all units with a state are fine, in rising order.
use Rattle.std.proofs.Common.{rules, ◌∙◌}
use Rattle.bq_check.proofs.Checked.{fine_more, fine_here, not_copied}
use Rattle.bq_check.proofs.checker.check_units.Goals as goal
use Rattle.bq_check.proofs.checker.check_units.Goals.{in-Some+in-Some-at+in_ok-check_unit, in-Some+in_default-at, in_default}

pub loop-unit-preserved : goal.loop-unit-preserved
loop-unit-preserved c =
    let text = c.args.text.now in
    let notes = c.args.notes.now in
    let unit = c.loop-unit.unit in
    fine_more text notes unit c.loop-unit.invariant (λ state i noted there. elim c.match-note.branch [
      | in-Some+in-Some-at+in_ok-check_unit w ↦
          fine_here text notes unit w.in-Some.state.now w.in-Some-at.insn (search rules) (search rules)
          w.in_ok-check_unit.ensures.fine state i noted there
      | in-Some+in_default-at w ↦ absurd (w.in_default-at.not-Some i (w.at.ensures ∙ there))
      | in_default w ↦ not_copied c.note.result state w.in_default.not-Some (c.note.ensures ∙ noted)
    ])
