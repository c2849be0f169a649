-- one_head: bytes begin with one head at most, which tells the version.
use Rattle.q_replay.proofs.Fronts.{head_front}
use Rattle.q_replay.proofs.laws.one_head.Goals as goal

pub returns : goal.returns
returns c = head_front
