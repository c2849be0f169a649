-- Cluster::books_are_replays: a law of every cluster: each node with its desk is the replay of its own journal,
-- also where the node has left or crashed.
use Rattle.std.proofs.Common.{subst}
use Rattle.q_history.specs.Books.{BooksAreReplays}
use Rattle.q_history.specs.Headline.{ClusterState}
use Rattle.q_cluster.specs.contracts.cluster.Cluster as cluster
use Rattle.q_cluster.proofs.cluster.Cluster.books_are_replays.Goals as goal

pub returns : goal.returns
returns c =
    let v : ClusterState = cluster.the_view c.self.inside in
    subst (λ (x : ClusterState). BooksAreReplays x) c.self.view_is
    (c.every_book_is_a_replay.ensures v.version v.past.config v.past.founders c.self.invariant.0 v c.self.invariant.2 c.self.invariant.1)
