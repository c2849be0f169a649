-- join_keeps_count: the join of two states of as many registers has as many.
use Rattle.bq_state.proofs.Covering.{joined_count}
use Rattle.bq_state.proofs.laws.join_keeps_count.Goals as goal

pub returns : goal.returns
returns c = joined_count
