-- one_event: in a version bytes begin with one event at most.
use Rattle.q_replay.proofs.Fronts.{event_front}
use Rattle.q_replay.proofs.laws.one_event.Goals as goal

pub returns : goal.returns
returns c = event_front
