-- push_due: puts letters of all questions that are due behind others.
use Rattle.q_kept.specs.Questions.{due_of}
use Rattle.q_kept.proofs.Letters.{adds_more, adds_up_to, on_err}
use Rattle.q_kept.proofs.again.push_due.Goals as goal

pub returns-in_err-push_question-clause-err : goal.returns-in_err-push_question-clause-err
returns-in_err-push_question-clause-err c =
    let o = c.args in let l = c.loop-question in
    on_err c.from_residual.result _
    (adds_up_to (due_of o.version o.node.now o.nodes.now) o.questions.now l.question-index c.loop-question-test.true c.question-item.is
    l.invariant c.in_err-push_question.ensures.err)

pub loop-question-preserved : goal.loop-question-preserved
loop-question-preserved c =
    let o = c.args in let l = c.loop-question in
    adds_more (due_of o.version o.node.now o.nodes.now) o.questions.now l.question-index c.loop-question-test.true c.question-item.is
    l.invariant c.in_ok-push_question.ensures.ok
