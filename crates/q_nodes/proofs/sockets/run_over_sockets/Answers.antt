-- run_over_sockets: runs the script that a text spells by a thread and a socket for each node.
use Rattle.std.proofs.Common.{inl, inr}
use Rattle.q_nodes.proofs.sockets.run_over_sockets.Goals as goal

pub returns-in-Ok-open_sockets-clause-written : goal.returns-in-Ok-open_sockets-clause-written
returns-in-Ok-open_sockets-clause-written g c = inl (c.in-Ok.script, c.in-Ok.ensures.read, inl c.run_cluster.ensures.written)

pub returns-clause-written : goal.returns-clause-written
returns-clause-written g c = inl (c.in-Ok.script, c.in-Ok.ensures.read, inr c.print_refusal-in-Err-open_sockets.ensures.written)
