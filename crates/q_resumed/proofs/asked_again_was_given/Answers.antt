-- asked_again_was_given: a law.
use Rattle.q_resumed.proofs.Traces.{asked_given}
use Rattle.q_resumed.proofs.asked_again_was_given.Goals as goal

pub returns : goal.returns
returns c = asked_given
