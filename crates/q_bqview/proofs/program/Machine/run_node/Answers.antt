-- Machine::run_node: runs a node by itself, whose console is the standard input: the exit status.
use Rattle.q_bqview.proofs.program.Machine.run_node.Goals as goal

pub returns : goal.returns
returns g c = (c.run_file.result, c.run_file.ensures.written, c.status.ensures, c.run_file.ensures.counted)
