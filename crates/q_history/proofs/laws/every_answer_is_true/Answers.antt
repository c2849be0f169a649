-- every_answer_is_true: a law: in every history each recorded answer is right.
use Rattle.q_history.proofs.EveryHistory.{every_true}
use Rattle.q_history.proofs.laws.every_answer_is_true.Goals as goal

pub returns : goal.returns
returns c = λ version config founders events d h. every_true version config founders events d h
