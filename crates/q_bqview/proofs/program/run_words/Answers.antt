-- run_words: runs the command of these words, of which the first is the program's name: the exit status.
use Rattle.std.proofs.Common.{inl, inr, refl}
use Rattle.q_bqview.proofs.program.run_words.Goals as goal

pub returns-in-Ok : goal.returns-in-Ok
returns-in-Ok g c = inl (c.in-Ok.invocation, c.in-Ok.ensures, c.run_invocation.ensures)

pub returns-in-Err : goal.returns-in-Err
returns-in-Err g c = inr (c.in-Err.fault, c.in-Err.ensures, c.explain.ensures, refl)
