-- Whose job is next, whose result may be recorded, and which answer is there.
use Rattle.std.specs.Prelude.{◌≡◌, ℕ, ◌==◌, Bool, true, false, List, position, slice_get, Option, Some, None, Result, Ok, Err, if◌then◌else◌}
use Rattle.sc_view.specs.Views.{ViewMap}
use Rattle.bq_check.specs.Certificate.{Certificate}
use Rattle.q_session.specs.Jobs.{job_over, MayRun}
use Rattle.q_session.specs.declared.ran.Ran.{Ran}
use Rattle.q_session.specs.declared.query.Phase.{Phase}
use Rattle.q_session.specs.declared.query.Phase.TheVariants.{Ready, Running, Answered}
use Rattle.q_session.specs.declared.query.Query.{Query}
use Rattle.q_session.specs.declared.job.Job.{Job}
use Rattle.q_session.specs.Same.{is_job_of, Serves}
use Rattle.reasons.specs.declared.Reason.{Reason}
use Rattle.reasons.specs.declared.Reason.TheVariants.{Stranger, AlreadyAnswered}

-- ---- jobs

abbrev pub is_ready : Phase → Bool
is_ready (Ready view) = true
is_ready p = false

-- the view over which a query that is ready is to run
abbrev pub ready_view : Phase → Option ViewMap
ready_view (Ready view) = Some view
ready_view p = None

-- the job of a query of this node over this view
abbrev pub job_on : ℕ → ℕ → Query → Option ViewMap → Option Certificate → Option Job
job_on node k q (Some view) (Some program) = Some (job_over node k q program view)
job_on node k q view program = None

abbrev pub next_at : List Certificate → ℕ → ℕ → Option Query → Option Job
next_at programs node k None = None
next_at programs node k (Some q) = job_on node k q (ready_view q.phase) (slice_get programs q.program)

abbrev pub next_from : List Certificate → List Query → ℕ → Option ℕ → Option Job
next_from programs queries node None = None
next_from programs queries node (Some k) = next_at programs node k (slice_get queries k)

-- the job of the ready query with the least number
abbrev pub next_of : List Certificate → List Query → ℕ → Option Job
next_of programs queries node = next_from programs queries node (position (λ q. is_ready q.phase) queries)

-- each query that is to run has a program that was checked for the records of its view
abbrev pub MayAllRun : List Certificate → List Query → Type 0
MayAllRun programs queries =
    (k : ℕ) (q : Query) (program : Certificate) → slice_get queries k ≡ Some q
    → slice_get programs q.program ≡ Some program → MayRun q program

-- ---- results

abbrev pub checked_in : List Certificate → Job → Query → Phase → Result (Unit {0}) Reason
checked_in programs j q (Answered view ran) = Err AlreadyAnswered
checked_in programs j q (Running view) = if is_job_of programs j q view then Ok tt else Err Stranger
checked_in programs j q p = Err Stranger

abbrev pub checked_at : List Certificate → Job → Option Query → Result (Unit {0}) Reason
checked_at programs j None = Err Stranger
checked_at programs j (Some q) = checked_in programs j q q.phase

-- whether the result of this job may be recorded, at a node with these programs and queries
abbrev pub checked : List Certificate → List Query → ℕ → Job → Result (Unit {0}) Reason
checked programs queries node j = if j.node == node then checked_at programs j (slice_get queries j.query) else Err Stranger

-- the job is that of a query which runs, and each right answer of it is one of the query
pub record IsOfRunning (programs : List Certificate) (queries : List Query) (j : Job) : Type 0 where
  pub query : Query
  pub view : ViewMap
  pub at : slice_get queries j.query ≡ Some query
  pub phase : query.phase ≡ Running view
  pub fits : is_job_of programs j query view ≡ true
  pub serves : Serves programs j query view

-- ---- answers

abbrev pub answer_in : Phase → Option Ran
answer_in (Answered view ran) = Some ran
answer_in p = None
