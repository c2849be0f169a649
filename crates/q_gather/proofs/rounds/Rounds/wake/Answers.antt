-- Rounds::wake: where more was sent by now, no book waits.
use Rattle.q_gather.proofs.Waiting.{none_among}
use Rattle.q_gather.proofs.rounds.Rounds.wake.Goals as goal

pub returns-clause-waiting : goal.returns-clause-waiting
returns-clause-waiting c = λ k among. absurd (none_among c.clear.new.self.keys k c.clear.ensures.empty among)
