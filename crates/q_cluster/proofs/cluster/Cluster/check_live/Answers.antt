-- Cluster::check_live: whether the node of this id is there.
use Rattle.std.proofs.Common.{◌∙◌, sym}
use Rattle.q_cluster.proofs.Coming.{there_is}
use Rattle.q_cluster.proofs.cluster.Cluster.check_live.Goals as goal

pub returns-then-is_live-clause-there : goal.returns-then-is_live-clause-there
returns-then-is_live-clause-there c = there_is c.args.self.now c.args.id (sym c.if-is_live.true ∙ c.is_live.ensures)
