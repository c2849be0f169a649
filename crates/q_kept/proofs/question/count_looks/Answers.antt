-- count_looks: counts one look more at each question.
use Rattle.std.proofs.Common.{◌∙◌, ap, set, sym}
use Rattle.std.proofs.lemmas.List.Edits.{map_over_more}
use Rattle.q_kept.specs.Questions.{looked_at}
use Rattle.q_kept.specs.declared.question.Question.{Question}
use Rattle.q_kept.proofs.question.count_looks.Goals as goal

pub loop-question-preserved : goal.loop-question-preserved
loop-question-preserved c =
    let l = c.loop-question in
    let q = c.question-item.result in
    ap (λ (x : Question). set l.questions l.question-index x) (c.count_look.ensures ∙ ap looked_at (sym c.question-item.is))
    ∙ map_over_more looked_at c.args.questions.now l.questions l.question-index q c.loop-question-test.true l.invariant c.question-item.is
