-- safe_folds: a text that is safe for records of so many bytes has an answer over any of them from any start value.
use Rattle.bq_sound.proofs.Folds.{has_answer}
use Rattle.bq_sound.proofs.laws.safe_folds.Goals as goal

pub returns : goal.returns
returns c = has_answer
