-- Cluster::is_live: whether the node of this id is there: it has neither left nor crashed.
use Rattle.std.proofs.Common.{◌∙◌, sym, ap, is_some, not}
use Rattle.q_history.specs.Clusters.{live_at}
use Rattle.q_history.specs.Headline.{ClusterState}
use Rattle.q_cluster.proofs.Coming.{live_some, live_none}
use Rattle.q_cluster.proofs.cluster.Cluster.is_live.Goals as goal

pub returns-then-not-has_crashed : goal.returns-then-not-has_crashed
returns-then-not-has_crashed c =
    ap not (c.is_gone.ensures ∙ ap (λ n. n.gone) c.node.ensures)
    ∙ live_some _ _ c.in-Some.book.now (sym c.has_crashed.ensures ∙ c.if-not-has_crashed.true) c.in-Some.ensures
    ∙ ap (λ (x : ClusterState). is_some (live_at x c.args.id)) c.self.view_is

pub returns-in-None : goal.returns-in-None
returns-in-None c = live_none _ _ c.in-None.ensures ∙ ap (λ (x : ClusterState). is_some (live_at x c.args.id)) c.self.view_is
