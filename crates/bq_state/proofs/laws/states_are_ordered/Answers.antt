-- states_are_ordered: a state covers itself, what covers a state covers what that one covers, and the join of two
-- states covers both and no more than any state that covers both.
use Rattle.bq_state.proofs.Monotone.{ordered}
use Rattle.bq_state.proofs.laws.states_are_ordered.Goals as goal

pub returns : goal.returns
returns c = ordered
