-- Gathering::kept_job_for: the number that was kept, where it is that of such a job.
use Rattle.q_gather.proofs.Finding.{job_for}
use Rattle.q_gather.proofs.gathering.Gathering.kept_job_for.Goals as goal

pub returns-then-query : goal.returns-then-query
returns-then-query c = job_for c.in_ok-job.ensures c.node.ensures c.if-node.true c.query.ensures c.if-query.true
