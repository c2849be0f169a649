-- transfer_keeps_count: an instruction leaves a state of as many registers.
use Rattle.bq_state.proofs.Counts.{transfer_count}
use Rattle.bq_state.proofs.laws.transfer_keeps_count.Goals as goal

pub returns : goal.returns
returns c = λ i a b. transfer_count a i b
