-- run_text: runs the script that a text spells over a connection with the node at this place.
use Rattle.std.proofs.Common.{inl, inr}
use Rattle.q_asker.proofs.command.run_text.Goals as goal

pub returns-in-Ok-clause-steps : goal.returns-in-Ok-clause-steps
returns-in-Ok-clause-steps g c = inl (c.in-Ok.lines.items, c.in-Ok.ensures.read, (rw c.as_slice.ensures.value at c.run_at.ensures.steps))

pub returns-in-Err-clause-steps : goal.returns-in-Err-clause-steps
returns-in-Err-clause-steps g c = inr (c.in-Err.fault, c.in-Err.ensures.fault, c.print_refusal.ensures.written)
