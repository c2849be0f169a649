-- Cluster::ops: the record of each operation, in the order in which they began.
use Rattle.sc_world.proofs.EveryHistory.{lawful_regular, lawful_ends, lawful_told}
use Rattle.q_cluster.proofs.Histories.{world_lawful}
use Rattle.q_cluster.proofs.cluster.Cluster.ops.Goals as goal

pub returns-clause-regular : goal.returns-clause-regular
returns-clause-regular c = lawful_regular _ (world_lawful c.self.invariant c.self.view_is)

pub returns-clause-records : goal.returns-clause-records
returns-clause-records c = (world_lawful c.self.invariant c.self.view_is).records

pub returns-clause-senders : goal.returns-clause-senders
returns-clause-senders c = (world_lawful c.self.invariant c.self.view_is).sent

pub returns-clause-answers : goal.returns-clause-answers
returns-clause-answers c = lawful_ends _ (world_lawful c.self.invariant c.self.view_is)

pub returns-clause-told : goal.returns-clause-told
returns-clause-told c = lawful_told _ (world_lawful c.self.invariant c.self.view_is)
