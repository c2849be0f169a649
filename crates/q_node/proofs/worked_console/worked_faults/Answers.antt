-- worked_faults: why a node does not begin.
use Rattle.q_script.specs.declared.fault.ClusterFileFault.TheVariants.{Syntax}
use Rattle.q_node.proofs.Refusing.{not_unread}
use Rattle.q_node.proofs.worked_console.worked_faults.Goals as goal

pub returns-clause-not_unread : goal.returns-clause-not_unread
returns-clause-not_unread c = not_unread (Syntax 3)
