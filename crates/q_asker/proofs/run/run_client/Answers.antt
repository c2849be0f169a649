-- run_client: makes the requests of a script's lines in turn, and prints what the replies tell.
use Rattle.std.proofs.Common.{inl, inr, refl}
use Rattle.q_asker.proofs.run.run_client.Goals as goal

pub returns-in-Ok-clause-steps : goal.returns-in-Ok-clause-steps
returns-in-Ok-clause-steps g c = inl (c.in-Ok.lines.items, c.in-Ok.ensures.read, (rw c.as_slice.ensures.value at c.run_lines.ensures.steps))

pub returns-in-Err-clause-steps : goal.returns-in-Err-clause-steps
returns-in-Err-clause-steps g c = inr (c.in-Err.fault, c.in-Err.ensures.fault, c.print_refusal.ensures.written, refl, refl)
