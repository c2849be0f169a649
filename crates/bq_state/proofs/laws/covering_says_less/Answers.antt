-- covering_says_less: what a state says of a machine, each state that covers it says too.
use Rattle.bq_state.proofs.Covering.{covering_says_less}
use Rattle.bq_state.proofs.laws.covering_says_less.Goals as goal

pub returns : goal.returns
returns c = covering_says_less
