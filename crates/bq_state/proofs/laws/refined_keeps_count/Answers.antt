-- refined_keeps_count: so does each edge of a branch.
use Rattle.bq_state.proofs.Counts.{refined_count}
use Rattle.bq_state.proofs.laws.refined_keeps_count.Goals as goal

pub returns : goal.returns
returns c = refined_count
