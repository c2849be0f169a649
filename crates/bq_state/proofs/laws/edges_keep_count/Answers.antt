-- edges_keep_count: so does each edge of an instruction.
use Rattle.bq_state.proofs.Counts.{edges_count}
use Rattle.bq_state.proofs.laws.edges_keep_count.Goals as goal

pub returns : goal.returns
returns c = λ unit i a. edges_count a unit i
