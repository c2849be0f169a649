-- step_is_covered: an instruction that breaks no rule of a state does not fault in a machine that the state covers.
use Rattle.bq_sound.proofs.Lifted.{covered}
use Rattle.bq_sound.proofs.laws.step_is_covered.Goals as goal

pub returns : goal.returns
returns c = covered
