-- every_view_is_returned: a law: each view that a query runs over is the one that its own collect returned.
use Rattle.q_history.proofs.EveryHistory.{every_returned}
use Rattle.q_history.proofs.laws.every_view_is_returned.Goals as goal

pub returns : goal.returns
returns c = λ version config founders events d h. every_returned version config founders events d h
