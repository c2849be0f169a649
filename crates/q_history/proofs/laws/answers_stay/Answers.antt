-- answers_stay: a law: in every history a recorded answer stays as it is, whatever is accepted after it.
use Rattle.q_history.proofs.EveryHistory.{every_stays}
use Rattle.q_history.proofs.laws.answers_stay.Goals as goal

pub returns : goal.returns
returns c = λ version config founders before after d later h r. every_stays version config founders before after d later h r
