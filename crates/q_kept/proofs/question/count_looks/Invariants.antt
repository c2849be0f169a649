use Rattle.std.proofs.Common.{◌≡◌, ◌++◌, map, take, drop}
use Rattle.q_kept.specs.Questions.{looked_at}
use Rattle.q_kept.proofs.question.count_looks.Given as goal

abbrev pub invariant-loop-question : goal.invariant-loop-question
invariant-loop-question l = l.questions ≡ map looked_at (take l.question-index l.fn.questions) ++ drop l.question-index l.fn.questions
