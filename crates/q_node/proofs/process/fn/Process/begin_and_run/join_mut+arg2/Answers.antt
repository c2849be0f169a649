-- The closure of begin_and_run that runs the threads: what it moves to them may be sent, as begin_and_run is given it.
use denote.Param.Send.{param_send}
use Rattle.q_node.proofs.process.fn.Process.begin_and_run.join_mut+arg2.Goals as goal

pub run_threads-requires-send-J : goal.run_threads-requires-send-J
run_threads-requires-send-J g c κs within = param_send _ _ c.requires.1.1.1.1.1.1.0

pub run_threads-requires-send-S : goal.run_threads-requires-send-S
run_threads-requires-send-S g c κs within = param_send _ _ c.requires.1.1.1.1.1.1.1

pub run_threads-requires-send-D-Stream : goal.run_threads-requires-send-D-Stream
run_threads-requires-send-D-Stream g c κs within = param_send _ _ c.requires.1.1.1.1.1.1.2
