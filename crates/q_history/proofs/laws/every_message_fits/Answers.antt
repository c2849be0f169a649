-- every_message_fits: a law: in every history of founders that are not refused, each message that was sent fits the
-- cluster's version, so no delivery is refused with 50.
use Rattle.q_history.proofs.EveryBook.{every_message}
use Rattle.q_history.proofs.laws.every_message_fits.Goals as goal

pub returns : goal.returns
returns c = every_message
