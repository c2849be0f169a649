-- run_line: carries out a command over files, and explains its refusal: the exit status.
use Rattle.q_bqview.proofs.program.run_line.Goals as goal

pub returns : goal.returns
returns g c = (c.carry_out.result, c.carry_out.ensures.ended, c.status.ensures, c.carry_out.ensures.counted)
