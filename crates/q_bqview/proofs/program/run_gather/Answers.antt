-- run_gather: gathers the journals of files, and explains their refusal: the exit status.
use Rattle.q_bqview.proofs.program.run_gather.Goals as goal

pub returns : goal.returns
returns g c = (c.gather_files.result, c.gather_files.ensures.written, c.status.ensures, c.gather_files.ensures.counted)
