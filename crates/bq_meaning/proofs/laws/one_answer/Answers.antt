-- one_answer: a text has one answer at most over records from a start value, in one count of steps.
use Rattle.bq_meaning.proofs.Folding.{same_answer}
use Rattle.bq_meaning.proofs.laws.one_answer.Goals as goal

pub returns : goal.returns
returns c = same_answer
