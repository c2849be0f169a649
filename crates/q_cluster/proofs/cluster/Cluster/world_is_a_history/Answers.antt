-- Cluster::world_is_a_history: a law of every cluster: its world is what the world's accepted events made of the
-- founders.
use Rattle.sc_world.specs.Worlds.{IsHistory}
use Rattle.q_history.specs.Headline.{ClusterState}
use Rattle.q_history.specs.World.{world}
use Rattle.q_cluster.proofs.Histories.{of_every}
use Rattle.q_cluster.proofs.cluster.Cluster.world_is_a_history.Goals as goal

pub returns : goal.returns
returns c = of_every (λ (x : ClusterState). IsHistory (world x)) c.every_world_is_a_history.ensures c.self.invariant c.self.view_is
