-- Why a wrong outcome is none.
use Rattle.q_beginning.proofs.Outcomes.{whole_event}
use Rattle.q_beginning.proofs.worked.worked.Goals as goal

pub returns-clause-whole_event : goal.returns-clause-whole_event
returns-clause-whole_event c = whole_event
