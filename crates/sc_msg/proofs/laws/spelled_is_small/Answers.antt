-- spelled_is_small: no spelling has more than 57,629 bytes.
use Rattle.sc_msg.proofs.Unique.{message_small}
use Rattle.sc_msg.proofs.laws.spelled_is_small.Goals as goal

pub returns : goal.returns
returns c = message_small
