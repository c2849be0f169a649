-- run_client: runs a client's script over a connection, and explains its refusal: the exit status.
use Rattle.q_bqview.proofs.program.run_client.Goals as goal

pub returns : goal.returns
returns g c = let ran = c.run_file-ending in (ran.result.ending, ran.result.source.items, ran.ensures.steps, c.status.ensures, ran.ensures.counted)
