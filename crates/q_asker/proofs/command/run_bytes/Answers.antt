-- run_bytes: the same of the bytes of a file.
use Rattle.std.proofs.Common.{inl}
use Rattle.q_asker.proofs.command.run_bytes.Goals as goal

pub returns-in-Ok-clause-steps : goal.returns-in-Ok-clause-steps
returns-in-Ok-clause-steps g c = inl (rw c.in-Ok.ensures.cases.0 at c.run_text.ensures.steps)
