-- Cluster::crash: a node crashes.
use Rattle.q_history.specs.declared.event.ClusterEvent.TheVariants as event
use Rattle.q_cluster.specs.Acts.{cluster_of}
use Rattle.q_cluster.specs.contracts.cluster.Cluster as cluster
use Rattle.q_cluster.proofs.Coming.{crash_goes}
use Rattle.q_cluster.proofs.Histories.{GoesTo}
use Rattle.q_cluster.proofs.cluster.Cluster.crash.Goals as goal

goes : (c : goal.After-told) → GoesTo c.args.self.now (event.Crash c.args.id) c.told.result
    (cluster_of c.self.inside.version c.self.inside.books c.crash.new.self.past c.self.inside.jobs.items)
goes c =
    crash_goes (cluster.the_view c.self.inside) c.args.id c.self.invariant c.self.view_is c.if-not-is_live.ensures c.in_ok-sent.ensures.ok.0
    c.in_ok-sent.ensures.ok.1 c.told.ensures

pub invariant_of-self-2 : goal.invariant_of-self-2
invariant_of-self-2 c = (goes c).goes

pub returns : goal.returns
returns c = (goes c).says
