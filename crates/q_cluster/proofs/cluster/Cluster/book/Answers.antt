-- Cluster::book: the book of this node, also where it has left or crashed.
use Rattle.std.proofs.Common.{◌∙◌, ap}
use Rattle.q_history.specs.Headline.{ClusterState}
use Rattle.q_cluster.specs.Acts.{book_at}
use Rattle.q_cluster.proofs.cluster.Cluster.book.Goals as goal

pub returns : goal.returns
returns c = c.get.ensures ∙ ap (λ (x : ClusterState). book_at x c.args.node) c.self.view_is
