-- states_stay_plain: where records have one length, the state at the entry knows no register as that length, and so
-- does what comes of such states: it tells the length by its number.
use Rattle.bq_state.proofs.Plain.{stays}
use Rattle.bq_state.proofs.laws.states_stay_plain.Goals as goal

pub returns : goal.returns
returns c = stays
