-- Cluster::new_as: the same with books of any version, for journals that are gathered.
use Rattle.q_cluster.proofs.Founding.{new_cluster, new_says}
use Rattle.q_cluster.proofs.cluster.Cluster.new_as.Goals as goal

pub invariant_of-result : goal.invariant_of-result
invariant_of-result c =
    new_cluster c.args.version c.args.config c.args.founders.now c.in_ok-books.ensures c.in_ok-ledger.ensures c.new-3.ensures.items

pub returns : goal.returns
returns c = new_says c.args.version c.args.config c.args.founders.now c.in_ok-books.ensures c.in_ok-ledger.ensures c.new-3.ensures.items
