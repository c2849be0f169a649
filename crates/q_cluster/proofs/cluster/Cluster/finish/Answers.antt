-- Cluster::finish: a job that was handed out is run, and its result posted.
use Rattle.std.proofs.Common.{◌≡◌, ◌∙◌, ℕ, ap}
use Rattle.sc_world.specs.declared.event.Sent.{Sent}
use Rattle.q_session.specs.declared.job.Job.{Job}
use Rattle.q_session.specs.declared.ran.Ran.{Ran}
use Rattle.q_history.specs.declared.event.ClusterStep.{ClusterStep}
use Rattle.q_history.specs.declared.event.EventAnswer.TheVariants as told
use Rattle.q_cluster.specs.contracts.cluster.Cluster as cluster
use Rattle.q_cluster.proofs.Finishing.{IsRun, finish_has, finish_stays, finish_refuses, finish_goes}
use Rattle.q_cluster.proofs.cluster.Cluster.finish.Goals as goal
use Rattle.q_cluster.proofs.cluster.Cluster.finish.Goals.{After-query-query, After-told}

abbrev finished_by : ℕ → ℕ → Sent → Ran → ClusterStep
finished_by node query sent ran = record { told = told.Finished (record { node = node; query = query; ran = ran }); sent = sent }

module _ (c : After-query-query) where
  -- the job, with the node and the query that were read of it
  abbrev read : Job
  read = record c.job-job.result.now { node = c.node-node.result; query = c.query-query.result }

  run_is : IsRun (cluster.the_view c.self.inside) c.args.self.now c.args.number c.run-done.result read
  run_is = record {
    old = c.self.invariant;
    same = c.self.view_is;
    job = _;
    may = c.in_ok-job_to_run.ensures.job;
    ran = c.run-done.ensures;
    read = (λ i. record c.job-job.result.now { node = c.node-node.ensures i; query = c.query-query.ensures i }) ∙ c.job-job.ensures.job;
  }

pub unreachable-requires : goal.unreachable-requires
unreachable-requires c = finish_has (run_is ((goal.at.unreachable-requires c).After-query-query)) c.in_default.ensures.book

pub invariant_of-self : goal.invariant_of-self
invariant_of-self c =
    finish_stays (run_is ((goal.at.invariant_of-self c).After-query-query)) c.in-Some.ensures.book c.job-job.ensures.right c.in_err-post.ensures

pub returns-in_err-post : goal.returns-in_err-post
returns-in_err-post c =
    finish_refuses (run_is ((goal.at.returns-in_err-post c).After-query-query)) c.in-Some.ensures.book c.job-job.ensures.right c.in_err-post.ensures
    c.from_residual-in_err-post.result c.from_residual-in_err-post.ensures.1

-- what is told, with the answer that was read
tells : (c : After-told) → c.told.result ≡ finished_by c.node-node.result c.query-query.result c.silent.result c.run-done.result.ran
tells c = c.told.ensures ∙ ap (finished_by c.node-node.result c.query-query.result c.silent.result) c.ran.ensures

pub invariant_of-self-2 : goal.invariant_of-self-2
invariant_of-self-2 c =
    (finish_goes (run_is ((goal.at.invariant_of-self-2 c).After-query-query)) c.in-Some.ensures.book c.job-job.ensures.right c.in_ok-post.ensures
    c.silent.ensures (tells ((goal.at.invariant_of-self-2 c).After-told))).goes

pub returns : goal.returns
returns c =
    (finish_goes (run_is ((goal.at.returns c).After-query-query)) c.in-Some.ensures.book c.job-job.ensures.right c.in_ok-post.ensures
    c.silent.ensures (tells ((goal.at.returns c).After-told))).says
