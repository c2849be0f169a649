-- states_are_least: the states of a text are covered by those of all notes that pass.
use Rattle.bq_verify.proofs.Least.{are_least}
use Rattle.bq_verify.proofs.laws.states_are_least.Goals as goal

pub returns : goal.returns
returns c = are_least c.states_are_ordered.ensures c.states_are_monotone.ensures
