-- put: writes bytes: the exit status that is wanted, or 1 where the writer failed.
use Rattle.std.proofs.Common.{inl, inr, refl}
use Rattle.q_bqview.proofs.program.put.Goals as goal

pub returns-in-Ok : goal.returns-in-Ok
returns-in-Ok g c = inl (c.in-Ok.ensures.written, refl, c.in-Ok.ensures.counted)

pub returns-in-Err : goal.returns-in-Err
returns-in-Err g c = inr (c.in-Err.ensures.failed, refl, c.in-Err.ensures.counted)
