-- What contracts see of a job that was run.
use Rattle.std.specs.Prelude.{refl}
use Rattle.std.specs.Coded.{Coded, code_by, coded×}
use Rattle.q_session.specs.Right.{IsRight}
use Rattle.q_session.specs.declared.ran.Ran.{Ran}
use Rattle.q_session.specs.declared.job.Job.{Job}
use Rattle.q_session.specs.contracts.job.Job as job
use Rattle.q_session.specs.contracts.ran.Ran as ran

pub record Finished : Type 0 where
  pub job : Job
  pub ran : Ran

-- it is stored as the pair of its fields
abbrev pub finished_code : Coded Finished
finished_code =
    code_by (Job × Ran) (coded× job.the_row.coded ran.the_row.coded) (λ f. (f.job, f.ran)) (λ p. record { job = p.0; ran = p.1 }) (λ _. refl)

-- it is the job's right answer
abbrev pub IsFinished : Finished → Type 0
IsFinished f = IsRight f.job.certified f.job.view f.job.start f.ran
