-- put_help: writes the help, whose text needs memory: the exit status.
use Rattle.std.proofs.Common.{inl, inr}
use Rattle.q_bqview.proofs.program.put_help.Goals as goal

pub returns-in-Ok : goal.returns-in-Ok
returns-in-Ok g c = inl (c.as_bytes.result.now, c.put.ensures)

pub returns-in-Err : goal.returns-in-Err
returns-in-Err g c = inr c.put_memory.ensures
