-- Cluster::comes_of_events: a law of every cluster: some list of events made it of its founders.
use Rattle.std.proofs.Common.{subst}
use Rattle.q_history.specs.Calls.{IsHistory}
use Rattle.q_history.specs.Headline.{ClusterState}
use Rattle.q_cluster.proofs.cluster.Cluster.comes_of_events.Goals as goal

pub returns : goal.returns
returns c = subst (λ (x : ClusterState). IsHistory x) c.self.view_is c.self.invariant
