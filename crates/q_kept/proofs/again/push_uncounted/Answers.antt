-- push_uncounted: puts one letter behind others to each of these nodes that the phase has not counted.
use Rattle.std.proofs.Common.{◌∙◌, sym}
use Rattle.q_kept.proofs.Letters.{on_err}
use Rattle.q_kept.proofs.Targets.{next_counted, next_sent, next_short}
use Rattle.q_kept.proofs.again.push_uncounted.Goals as goal
use Rattle.q_kept.proofs.again.push_uncounted.Goals.{then-not-contains+in_ok-push_letter, else-not-contains}

pub returns-in_err-push_letter-clause-err : goal.returns-in_err-push_letter-clause-err
returns-in_err-push_letter-clause-err c =
    let o = c.args in let l = c.loop-id in
    on_err c.from_residual.result _
    (next_short o.message.now o.phase.now o.nodes.now l.id-index c.loop-id-test.true l.invariant c.in_err-push_letter.ensures.err)

pub loop-id-preserved : goal.loop-id-preserved
loop-id-preserved c =
    let o = c.args in let l = c.loop-id in
    elim c.if-not-contains.branch [
      | then-not-contains+in_ok-push_letter w ↦
          rw w.letters-is (next_sent o.message.now o.phase.now o.nodes.now l.id-index c.loop-id-test.true l.invariant
          (sym c.contains.ensures ∙ w.if-not-contains.true) w.in_ok-push_letter.ensures.ok)
      | else-not-contains w ↦
          rw w.letters-is (next_counted o.message.now o.phase.now o.nodes.now l.id-index c.loop-id-test.true l.invariant
          (sym c.contains.ensures ∙ w.if-not-contains.false))
    ]
