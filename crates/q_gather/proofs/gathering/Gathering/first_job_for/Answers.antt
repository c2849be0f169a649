-- Gathering::first_job_for: the first such number.
use Rattle.q_gather.proofs.Finding.{job_for}
use Rattle.q_gather.proofs.gathering.Gathering.first_job_for.Goals as goal

pub returns-then-query : goal.returns-then-query
returns-then-query c = job_for c.in-Some.ensures c.node.ensures c.if-node.true c.query.ensures c.if-query.true
