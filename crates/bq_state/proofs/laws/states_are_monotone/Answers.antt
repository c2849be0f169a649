-- states_are_monotone: of less an instruction leaves less: where it breaks no rule of a state, it breaks none of a
-- state that this one covers, and what it leaves of that one is covered.
use Rattle.bq_state.proofs.Monotone.{monotone}
use Rattle.bq_state.proofs.laws.states_are_monotone.Goals as goal

pub returns : goal.returns
returns c = monotone c.rows_are_monotone.ensures
