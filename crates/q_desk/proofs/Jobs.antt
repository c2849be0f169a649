-- What a job that is handed out or posted makes of a desk.
use Rattle.std.proofs.Common.{◌≡◌, ◌<◌, ◌+◌, ℕ, Bool, true, false, cond, List, length, Option, Some, None, Result, Ok, Err, refl, sym, ap, subst, ◌∙◌, rules}
use Rattle.std.specs.Prelude.{slice_get, position, nat_lt, ◌==◌, IfSome}
use Rattle.bq_range.specs.Interval.{Interval}
use Rattle.bq_check.specs.Certificate.{Certificate}
use Rattle.q_session.specs.Right.{IsRight}
use Rattle.q_session.specs.declared.ran.Ran.{Ran}
use Rattle.q_session.specs.declared.query.Phase.{Phase}
use Rattle.q_session.specs.declared.query.Phase.TheVariants.{Collecting, Ready, Running, Answered}
use Rattle.q_session.specs.declared.query.Query.{Query}
use Rattle.q_session.specs.declared.job.Job.{Job}
use Rattle.q_session.specs.Same.{is_job_of}
use Rattle.q_desk.specs.State.{DeskState}
use Rattle.q_desk.specs.declared.journal.Entry.{Entry}
use Rattle.q_desk.specs.declared.journal.Call.TheVariants as call
use Rattle.q_desk.specs.declared.journal.Entry.TheVariants as entry
use Rattle.q_desk.specs.Desks.{most_events, how_many_run, with_phase, is_running, job_at, job_from, next_job, handed_out, posted, posted_at, posted_to}
use Rattle.q_desk.specs.Queries.{is_ready, ready_view, next_at, next_from, next_of, checked_in, checked_at, checked, IsOfRunning}
use Rattle.forms.proofs.Calls.{no_refusal, same_fault}
use Rattle.reasons.specs.declared.Reason.{Reason}
use Rattle.reasons.specs.declared.Reason.TheVariants as reasons
use Rattle.q_session.specs.Jobs.{view_in}
use Rattle.q_session.specs.Records.{HasRecordsWithin}
use Rattle.q_desk.specs.Answers.{IsAnswered}
use Rattle.q_desk.specs.Keeping.{IsDesk, MayAllRun}
use Rattle.q_desk.proofs.Running.{run-handed, run-answered, run-some}
use Rattle.q_desk.proofs.Accepted.{IsReadyJob, next_job-some, same_Some}
use Rattle.q_desk.proofs.Keeps.{IsAppended, PhaseFits, desk-appended, desk-running, desk-with_phase}

-- programs may run over views that have records of the lengths for which they were checked
pub may_all_run : {s : DeskState} → IsDesk s → MayAllRun s.programs s.queries
may_all_run d k q program here named =
    subst (λ (l : Interval). IfSome (view_in q.phase) (HasRecordsWithin l)) (sym (d.checked q.program program named)) (d.fit k q here)

-- the next job is seen by the desk's programs and queries alone
next-same_at : (s : DeskState) (node k : ℕ) (o : Option Query) → next_at s.programs node k o ≡ job_at ready_view s node k o
next-same_at s node k None = refl
next-same_at s node k (Some q) = refl

next-same_from : (s : DeskState) (node : ℕ) (o : Option ℕ) → next_from s.programs s.queries node o ≡ job_from s node o
next-same_from s node None = refl
next-same_from s node (Some k) = next-same_at s node k (slice_get s.queries k)

pub next-same : (s : DeskState) (node : ℕ) → next_of s.programs s.queries node ≡ next_job s node
next-same s node = next-same_from s node (position (λ (q : Query). is_ready q.phase) s.queries)

-- queries in which one is in another phase, and a journal with one more entry
desk-moved : (s : DeskState) (k : ℕ) (p : Phase) (e : Entry) (queries : List Query) (journal : List Entry) → IsAppended s e journal
    → queries ≡ with_phase s.queries k p → IsDesk (record s { queries = with_phase s.queries k p }) → IsDesk (record s { queries = queries; journal = journal })
desk-moved s k p e queries journal a after d =
    subst (λ (x : List Query). IsDesk (record s { queries = x; journal = journal })) (sym after)
    (desk-appended (record s { queries = with_phase s.queries k p }) e journal (record { room = a.room; is = a.is }) d)

-- the next job is handed out, and its query runs
pub record HandsOut (s : DeskState) (node : ℕ) (j : Job) (queries : List Query) (journal : List Entry) : Type 0 where
  pub next : Some j ≡ next_job s node
  pub runs : queries ≡ with_phase s.queries j.query (Running j.view)
  pub appended : IsAppended s (entry.Call call.HandOut) journal

module _ {s : DeskState} {node : ℕ} {j : Job} {queries : List Query} {journal : List Entry} (h : HandsOut s node j queries journal) where
  ready : IsReadyJob s node j
  ready = next_job-some s node j (sym h.next)

  pub desk-handed : IsDesk s → IsDesk (record s { queries = queries; journal = journal })
  desk-handed d =
      let fits = subst (PhaseFits s.lengths) ready.phase (d.fit j.query ready.query ready.at) in
      desk-moved s j.query (Running j.view) (entry.Call call.HandOut) queries journal h.appended h.runs (desk-running s j.query j.view d fits)

  pub handed : handed_out s node ≡ Ok (Some j, record s { queries = queries; journal = journal })
  handed =
      let room = h.appended.room in
      let small : nat_lt (length s.journal) most_events ≡ true = search rules in
      rw (← h.next, small, h.runs, h.appended.is) refl

  pub jobs-handed : how_many_run queries ≡ how_many_run s.queries + 1
  jobs-handed = run-handed s.queries queries j.query ready.query j.view ready.at ready.phase h.runs

-- the result of a job of this node, whose query runs, is recorded as the query's answer
pub record Posts (s : DeskState) (node : ℕ) (j : Job) (ran : Ran) (queries : List Query) (journal : List Entry) : Type 0 where
  pub own : (j.node == node) ≡ true
  pub runs : IsOfRunning s.programs s.queries j
  pub right : IsRight j.certified j.view j.start ran
  pub after : queries ≡ with_phase s.queries j.query (Answered runs.view ran)
  pub appended : IsAppended s (entry.Post j.query ran) journal

module _ {s : DeskState} {node : ℕ} {j : Job} {ran : Ran} {queries : List Query} {journal : List Entry} (p : Posts s node j ran queries journal) where
  -- the right answer of the job is one of its query
  answers : IsAnswered s p.runs.query p.runs.view ran
  answers = record { program = p.runs.serves.program; named = p.runs.serves.named; right = p.runs.serves.right ran p.right }

  pub desk-posted : IsDesk s → IsDesk (record s { queries = queries; journal = journal })
  desk-posted d =
      let kept = desk-with_phase s j.query (Answered p.runs.view ran) d tt (λ q here view r e.
      let same : p.runs.query ≡ q = same_Some p.runs.query q (sym p.runs.at ∙ here) in
      let view-same : p.runs.view ≡ view = cc in
      let ran-same : ran ≡ r = cc in
      rw (← same, ← view-same, ← ran-same) answers) in
      desk-moved s j.query (Answered p.runs.view ran) (entry.Post j.query ran) queries journal p.appended p.after kept

  pub posts : posted s node j ran ≡ Ok (tt, record s { queries = queries; journal = journal })
  posts =
      let room = p.appended.room in
      let small : nat_lt (length s.journal) most_events ≡ true = search rules in
      rw (p.own, p.runs.at, p.runs.phase, p.runs.fits, small, p.after, p.appended.is) refl

  pub run-posted : how_many_run queries + 1 ≡ how_many_run s.queries
  run-posted = run-answered s.queries queries j.query p.runs.query p.runs.view ran p.runs.at p.runs.phase p.after

-- ---- a result that may not be recorded is refused with what says so

module _ (s : DeskState) (j : Job) (ran : Ran) (e : Reason) where
  -- the test refuses with this
  abbrev Refused : Result (Unit {0}) Reason → Type 0
  Refused r = r ≡ Err e

  same_refusal : (f : Reason) → Refused (Err f) → (let p : Result (Unit {0} × DeskState) Reason = Err f in p) ≡ Err e
  same_refusal f h = ap (λ (x : Reason). let p : Result (Unit {0} × DeskState) Reason = Err x in p) (same_fault f e h)

  refused_by : (b : Bool) (f : Reason) (r : Result (Unit {0}) Reason) (p : Result (Unit {0} × DeskState) Reason) → (Refused r → p ≡ Err e)
      → Refused (cond b r (Err f)) → cond b p (Err f) ≡ Err e
  refused_by true f r p later h = later h
  refused_by false f r p later h = same_refusal f h

  refused_in : (q : Query) (phase : Phase) → Refused (checked_in s.programs j q phase) → posted_to s j ran q phase ≡ Err e
  refused_in q (Answered view old) h = same_refusal reasons.AlreadyAnswered h
  refused_in q (Running view) h = refused_by (is_job_of s.programs j q view) reasons.Stranger (Ok tt) _ (λ k. absurd (no_refusal e tt (sym k))) h
  refused_in q Collecting h = same_refusal reasons.Stranger h
  refused_in q (Ready view) h = same_refusal reasons.Stranger h

  refused_at : (o : Option Query) → Refused (checked_at s.programs j o) → posted_at s j ran o ≡ Err e
  refused_at None h = same_refusal reasons.Stranger h
  refused_at (Some q) h = refused_in q q.phase h

  pub refused_so : (node : ℕ) → Refused (checked s.programs s.queries node j) → posted s node j ran ≡ Err e
  refused_so node h =
      let o = slice_get s.queries j.query in
      refused_by (j.node == node) reasons.Stranger (checked_at s.programs j o) (posted_at s j ran o) (refused_at o) h

-- one query runs, its own
pub some-runs : {programs : List Certificate} {queries : List Query} {j : Job} → IsOfRunning programs queries j → 0 < how_many_run queries
some-runs r = run-some _ _ r.query r.at (ap is_running r.phase)
