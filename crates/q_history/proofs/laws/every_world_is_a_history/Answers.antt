-- every_world_is_a_history: a law: in every history the cluster's world is what its own accepted events made of its
-- founders.
use Rattle.q_history.proofs.EveryHistory.{every_world}
use Rattle.q_history.proofs.laws.every_world_is_a_history.Goals as goal

pub returns : goal.returns
returns c = λ version config founders events d h. every_world version config founders events d h
