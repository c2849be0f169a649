-- Jobs of queries that run, and what it takes to record their answers.
use Rattle.std.proofs.Common.{◌≡◌, ℕ, ◌==◌, true, [], ◌∷◌, Option, Some, None, refl, ap, ◌∙◌, subst, slice_get, Result, Ok}
use Rattle.sc_view.specs.Views.{ViewMap}
use Rattle.bq_check.specs.Certificate.{Certificate}
use Rattle.q_session.specs.declared.ran.Ran.{Ran}
use Rattle.q_session.specs.declared.query.Phase.{Phase}
use Rattle.q_session.specs.declared.query.Phase.TheVariants.{Collecting, Ready, Running, Answered}
use Rattle.q_session.specs.declared.query.Query.{Query}
use Rattle.q_session.specs.declared.job.Job.{Job}
use Rattle.q_desk.specs.State.{DeskState}
use Rattle.q_desk.specs.Desks as desk
use Rattle.q_desk.specs.Desks.{running_view, job_on, job_at, running_job}
use Rattle.reasons.specs.declared.Reason.{Reason}
use Rattle.reasons.specs.declared.Reason.TheVariants as reasons
use Rattle.std.specs.Cmp.{second_so}
use Rattle.std.proofs.lemmas.Bool.{and_from}
use Rattle.forms.proofs.Calls.{tested_pass}
use Rattle.q_desk.proofs.Accepted.{answered, IsPosted}
use Rattle.q_desk.proofs.Own.{job_by, some_program, same_bytes, same_number, own_fits}
use Rattle.q_table.specs.Programs.{is_same_text}
use Rattle.bq_insn.specs.Slots.{spelling}
use Rattle.q_replay.proofs.Lists.{same_Some, none-some, get-same}

-- ---- jobs of queries that run

pub record Runs (d : DeskState) (node k : ℕ) (j : Job) : Type 0 where
  pub query : Query
  pub view : ViewMap
  pub program : Certificate
  pub at : slice_get d.queries k ≡ Some query
  pub phase : query.phase ≡ Running view
  pub named : slice_get d.programs query.program ≡ Some program
  pub is : job_by node k query view program ≡ j

module _ (d : DeskState) (node k : ℕ) where
  pub runs_job : (q : Query) (view : ViewMap) (program : Certificate) → slice_get d.queries k ≡ Some q → q.phase ≡ Running view
      → slice_get d.programs q.program ≡ Some program → running_job d node k ≡ Some (job_by node k q view program)
  runs_job q view program at phase named =
      ap (job_at running_view d node k) at ∙ ap (λ (p : Phase). job_on node k q (running_view p) (slice_get d.programs q.program)) phase
      ∙ ap (job_on node k q (running_view (Running view))) named

  job_of-runs : (q : Query) (p : Phase) (c : Option Certificate) (j : Job) → slice_get d.queries k ≡ Some q → q.phase ≡ p
      → slice_get d.programs q.program ≡ c → job_on node k q (running_view p) c ≡ Some j → Runs d node k j
  job_of-runs q (Running view) (Some c) j at is named h =
      record { query = q; view = view; program = c; at = at; phase = is; named = named; is = same_Some _ j h }
  job_of-runs q (Running view) None j at is named h = absurd (none-some j h)
  job_of-runs q Collecting c j at is named h = absurd (none-some j h)
  job_of-runs q (Ready view) c j at is named h = absurd (none-some j h)
  job_of-runs q (Answered view ran) c j at is named h = absurd (none-some j h)

  job_at-runs : (o : Option Query) (j : Job) → slice_get d.queries k ≡ o → job_at running_view d node k o ≡ Some j → Runs d node k j
  job_at-runs None j at h = absurd (none-some j h)
  job_at-runs (Some q) j at h = job_of-runs q q.phase (slice_get d.programs q.program) j at refl refl h

  pub job_runs : (j : Job) → running_job d node k ≡ Some j → Runs d node k j
  job_runs j h = job_at-runs (slice_get d.queries k) j refl h

-- ---- whose answer may be recorded

-- a query whose answer was recorded ran, and its program is there
pub record IsRun (d : DeskState) (node : ℕ) (j : Job) (q : Query) (view : ViewMap) : Type 0 where
  pub program : Certificate
  pub named : slice_get d.programs q.program ≡ Some program
  pub is : running_job d node j.query ≡ Some (job_by node j.query q view program)

pub posted_runs : (d : DeskState) (node : ℕ) (j : Job) (ran : Ran) (e : DeskState) (p : IsPosted d j ran e) → IsRun d node j p.query p.view
posted_runs d node j ran e p =
    let a = second_so (j.program == p.query.program) _ p.fits in
    let b = second_so (j.start == p.query.start) _ a in
    let c = some_program j.certified (slice_get d.programs p.query.program) (second_so (desk.is_same_view j.view p.view) _ b) in
    record { program = c.0; named = c.1; is = runs_job d node j.query p.query p.view c.0 p.at p.phase c.1 }

same_program : (c : Certificate) → desk.is_same_program c (Some c) ≡ true
same_program c = and_from (is_same_text c.text c.text) _ (same_bytes (spelling c.text)) (same_number c.longest)

abbrev Outcome : Type 0
Outcome = Result (Unit {0} × DeskState) Reason

-- where there is room, the answer of a query that runs is recorded, as that of its own job
pub own_posts : (d : DeskState) (node k : ℕ) (j : Job) (ran : Ran) → Runs d node k j → desk.has_room d ≡ true
    → (e : DeskState) × (desk.posted d node j ran ≡ Ok (tt, e))
own_posts d node k j ran r room =
    let made : Job = job_by node k r.query r.view r.program in
    let after : DeskState = answered d k r.view ran in
    let fits = own_fits d.programs node k r.query r.view r.program r.named (same_program r.program) in
    let said : Outcome = Ok (tt, after) in
    let own : desk.posted d node made ran ≡ Ok (tt, after) =
    tested_pass ((node == node, reasons.Stranger) ∷ []) (desk.posted_at d made ran (slice_get d.queries k)) (same_number node, tt)
    ∙ ap (desk.posted_at d made ran) r.at ∙ ap (desk.posted_to d made ran r.query) r.phase
    ∙ tested_pass ((desk.is_job_of d.programs made r.query r.view, reasons.Stranger) ∷ desk.room d) said (fits, (room, tt)) in
    (after, subst (λ (i : Job). desk.posted d node i ran ≡ Ok (tt, after)) r.is own)

-- the query's answer, once it is recorded
pub posted_at_query : (d : DeskState) (j : Job) (ran : Ran) (e : DeskState) (p : IsPosted d j ran e)
    → slice_get e.queries j.query ≡ Some (record p.query { phase = Answered p.view ran })
posted_at_query d j ran e p =
    subst (λ (x : DeskState). slice_get x.queries j.query ≡ Some (record p.query { phase = Answered p.view ran })) p.is
    (ap (λ (o : Option Query). slice_get (desk.in_phase d.queries j.query (Answered p.view ran) o) j.query) p.at
    ∙ get-same d.queries j.query p.query (record p.query { phase = Answered p.view ran }) p.at)
