-- edges_are_ways: the edges of an instruction are the one to a unit behind it and then that of its jump.
use Rattle.bq_state.proofs.BothWays.{both_ways}
use Rattle.bq_state.proofs.laws.edges_are_ways.Goals as goal

pub returns : goal.returns
returns c = λ unit i a. both_ways unit i a
