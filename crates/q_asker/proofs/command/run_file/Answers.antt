-- run_file: runs the script in the file of this name over a connection with the node at this place.
use Rattle.std.proofs.Common.{inl}
use Rattle.q_asker.proofs.command.run_file.Goals as goal

pub returns-clause-steps : goal.returns-clause-steps
returns-clause-steps g c = inl (c.in-Ok.ensures.bytes, (rw c.as_slice.ensures.value at c.run_bytes-ending.ensures.steps))
