-- one_spelling: in a version bytes are the spelling of one message at most.
use Rattle.sc_msg.proofs.Unique.{one_spelling}
use Rattle.sc_msg.proofs.laws.one_spelling.Goals as goal

pub returns : goal.returns
returns c = one_spelling
