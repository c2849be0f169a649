-- is_job_of: whether the job is that of a query which runs over this view: its program, its start value and its
-- view are the query's.
use Rattle.std.proofs.Common.{◌≡◌, Some, rules, sym, subst, ◌∙◌, slice_get}
use Rattle.bq_check.specs.Certified.{IsCertified}
use Rattle.q_session.specs.Same.{is_job_of}
use Rattle.q_session.proofs.Jobs.{job-serves}
use Rattle.q_session.proofs.same.is_job_of.Goals as goal

pub returns-then-is_same_view-clause-serves : goal.returns-then-is_same_view-clause-serves
returns-then-is_same_view-clause-serves c = λ told.
    let job = c.args.job.now in
    let program = c.in-Some.program.now in
    let there : slice_get c.args.programs.now c.args.query.now.program ≡ Some program = search rules in
    let fits : c.is_same_program.result ≡ is_job_of c.args.programs.now job c.args.query.now c.args.view.now = search rules in
    let t = c.is_same_program.ensures.text told in
    let l = c.is_same_program.ensures.longest told in
    let text : job.certified.text ≡ program.text = cc in
    let longest : job.certified.longest ≡ program.longest = cc in
    let same : c.certified-then-is_same_view-2.result.now ≡ program = cc in
    let certified : IsCertified program = subst IsCertified same c.is_same_program.ensures.certified in
    job-serves c.args.programs.now job c.args.query.now c.args.view.now (sym fits ∙ told) program there certified text longest
