-- gather: the cluster of the nodes with these journals, in which just what the journals say happened, in an order
-- in which each message that is delivered was sent before.
use Rattle.q_gather.proofs.Replaying.{gathers_all}
use Rattle.q_gather.proofs.gatherer.gather.Goals as goal

pub returns-clause-all : goal.returns-clause-all
returns-clause-all c =
    λ books r. gathers_all c.one_book.ensures c.one_fault.ensures.none r c.merged.result c.merged.ensures.gathers c.merged.ensures.refused
