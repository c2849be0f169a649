-- run_file: the command `node`: runs the node of the cluster's file of this name so.
use Rattle.q_node.proofs.command.run_file.Goals as goal

pub returns-in-Ok-clause-written : goal.returns-in-Ok-clause-written
returns-in-Ok-clause-written g c = c.in-Ok.ensures.read _ _ _ c.run.ensures.written
