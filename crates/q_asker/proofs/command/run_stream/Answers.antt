-- run_stream: runs lines over a stream, if there is one.
use Rattle.q_asker.proofs.Halting.{never_connected}
use Rattle.q_asker.proofs.command.run_stream.Goals as goal

pub returns-in-Err-clause-steps : goal.returns-in-Err-clause-steps
returns-in-Err-clause-steps g c = never_connected c.args.lines.now c.print_lost.result _ _ c.print_lost.ensures.written
