-- run_nodes: runs a script by a thread and a socket for each node, and explains its refusal: the exit status.
use Rattle.q_bqview.proofs.program.run_nodes.Goals as goal

pub returns : goal.returns
returns g c = let ran = c.run_file-ending in (ran.result.ending, ran.result.source.items, ran.ensures.written, c.status.ensures, ran.ensures.counted)
