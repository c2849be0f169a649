-- Cluster::views_are_returned: a law of every cluster: each view over which a query is to run, runs or ran is the
-- one that its own collect returned, and that view holds what was stored before.
use Rattle.q_history.specs.Headline.{ViewsAreReturned}
use Rattle.q_cluster.proofs.Histories.{of_every}
use Rattle.q_cluster.proofs.cluster.Cluster.views_are_returned.Goals as goal

pub returns : goal.returns
returns c = of_every ViewsAreReturned c.every_view_is_returned.ensures c.self.invariant c.self.view_is
