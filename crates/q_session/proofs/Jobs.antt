-- What passes the tests of a job.
use Rattle.std.proofs.Common.{◌≡◌, ◌==◌, true, List, Some, slice_get, subst}
use Rattle.std.specs.Cmp.{first_so, second_so, unsigned_Decides}
use Rattle.sc_view.specs.Views.{ViewMap}
use Rattle.bq_check.specs.Certificate.{Certificate}
use Rattle.bq_check.specs.Certified.{IsCertified}
use Rattle.q_session.specs.Right.{IsRight}
use Rattle.q_session.specs.declared.query.Query.{Query}
use Rattle.q_session.specs.declared.job.Job.{Job}
use Rattle.q_session.specs.Same.{is_same_view, is_job_of, Serves}
use Rattle.q_session.proofs.Views.{same-view, right-of_same}

module _ (programs : List Certificate) (j : Job) (q : Query) (view : ViewMap) (passes : is_job_of programs j q view ≡ true) where
  job-fits : (j.start ≡ q.start) × (j.view ≡ view)
  job-fits =
      let a = second_so (j.program == q.program) _ passes in
      let b = second_so (j.start == q.start) _ a in
      ((unsigned_Decides j.start q.start).0 (first_so (j.start == q.start) _ a), same-view j.view view (first_so (is_same_view j.view view) _ b))

  -- a right answer of the job is one of the query
  pub job-serves : (program : Certificate) → slice_get programs q.program ≡ Some program → IsCertified program
      → j.certified.text ≡ program.text → j.certified.longest ≡ program.longest → Serves programs j q view
  job-serves program there certified text longest = record {
    program = program;
    named = there;
    right = λ ran right.
        subst (λ (v : ViewMap). IsRight program v q.start ran) job-fits.1
        (subst (λ n. IsRight program j.view n ran) job-fits.0 (right-of_same j.certified program j.view j.start ran certified text longest right));
  }
