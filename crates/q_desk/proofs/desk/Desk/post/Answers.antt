-- Desk::post: records the result of a job as its query's answer, as desk of this node.
use Rattle.std.proofs.Common.{◌≡◌, ◌==◌, ℕ, List, [], ◌∷◌, ◌++◌, rules, Result, Err, refl, sym, ap, subst, ◌∙◌, arith, slice_get}
use Rattle.q_session.specs.Right.{IsRight}
use Rattle.q_session.specs.declared.ran.Ran.{Ran}
use Rattle.q_session.specs.declared.query.Phase.TheVariants.{Answered}
use Rattle.q_session.specs.declared.query.Query.{Query}
use Rattle.q_session.specs.declared.job.Job.{Job}
use Rattle.std.proofs.lemmas.Result.{err_from_is_err_and}
use Rattle.forms.specs.Calls.{Does}
use Rattle.forms.proofs.Calls.{passed}
use Rattle.reasons.specs.declared.Reason.{Reason}
use Rattle.reasons.specs.declared.Reason.TheVariants as reasons
use Rattle.q_desk.specs.Queries.{IsOfRunning, checked}
use Rattle.q_desk.specs.declared.journal.Entry.TheVariants as entry
use Rattle.q_desk.specs.State.{DeskState}
use Rattle.q_desk.specs.contracts.desk.Desk as desk
use Rattle.q_desk.specs.Desks.{posted, with_phase, how_many_run}
use Rattle.q_desk.proofs.Keeps.{IsAppended}
use Rattle.q_desk.proofs.Jobs.{Posts, desk-posted, posts, run-posted, refused_so, some-runs}
use Rattle.q_desk.proofs.desk.Desk.post.Goals as goal

module _ (c : goal.After-append) where
  abbrev inside : DeskState
  inside = desk.the_view c.self.inside

  abbrev job : Job
  job = c.job-job.result.now

  right : IsRight job.certified job.view job.start c.ran-ran.result
  right =
      let own = c.args.done.now.job in
      subst (λ (j : Job). IsRight j.certified j.view j.start c.ran-ran.result) (sym c.job-job.ensures.job)
      (subst (λ (r : Ran). IsRight own.certified own.view own.start r) (sym c.ran-ran.ensures) c.job-job.ensures.right)

  appended : IsAppended inside (entry.Post job.query c.ran-ran.result) c.append.new.entries.items
  appended =
      let is : c.append.new.entries.items ≡ inside.journal ++ entry.Post c.query-query.result c.ran-ran.result ∷ [] = search rules in
      record { room = search rules; is = is ∙ ap (λ (k : ℕ). inside.journal ++ entry.Post k c.ran-ran.result ∷ []) c.query-query.ensures }

  -- the query runs, whose job it is
  runs : IsOfRunning inside.programs inside.queries job
  runs = subst (λ (queries : List Query). IsOfRunning inside.programs queries job) c.deref.ensures.value c.in_ok-check_result.ensures.runs

  recorded : Posts inside c.args.node job c.ran-ran.result c.record_answer.new.queries.items c.append.new.entries.items
  recorded = record {
    own = (passed (job.node == c.args.node) reasons.Stranger _ tt (sym c.in_ok-check_result.ensures.told)).0;
    runs = runs;
    right = right;
    after =
        c.record_answer.ensures runs.query runs.view (ap (λ (k : ℕ). slice_get inside.queries k) c.query-query.ensures ∙ runs.at) runs.phase
        ∙ ap (λ (k : ℕ). with_phase inside.queries k (Answered runs.view c.ran-ran.result)) c.query-query.ensures;
    appended = appended;
  }

pub returns-in_err-check_result : goal.returns-in_err-check_result
returns-in_err-check_result c =
    let s : DeskState = desk.the_view c.self.inside in
    let done = c.args.done.now in
    let why = err_from_is_err_and c.from_residual.result c.from_residual.ensures.1 in
    let told = c.in_err-check_result.ensures.told
    ∙ ap (λ (queries : List Query). checked s.programs queries c.args.node c.job-job.result.now) c.deref.ensures.value
    ∙ ap (λ (j : Job). checked s.programs s.queries c.args.node j) c.job-job.ensures.job in
    rw (← c.self.view_is) (subst (λ (r : Result (Unit {0}) Reason). Does (posted s c.args.node done.job done.ran) s s r) (sym why.1)
    (refl, refused_so s done.job done.ran why.0 c.args.node (sym (ap (λ (x : Reason). let r : Result (Unit {0}) Reason = Err x in r) why.2 ∙ told))))

pub overflow_sub-self : goal.overflow_sub-self
overflow_sub-self c = omega (arith, c.self.invariant.1.counted, ap how_many_run c.deref.ensures.value, some-runs c.in_ok-check_result.ensures.runs)

pub append-requires : goal.append-requires
append-requires c =
    let room = c.self.invariant.1 in
    omega (arith, room.counted, room.fits, ap how_many_run c.deref.ensures.value, some-runs c.in_ok-check_result.ensures.runs)

pub invariant_of-self : goal.invariant_of-self
invariant_of-self c = (
  desk-posted (recorded c) c.self.invariant.0,
  record { counted = omega (arith, c.self.invariant.1.counted, run-posted (recorded c)); fits = search rules },
)

pub returns : goal.returns
returns c =
    ap (λ (s : DeskState). posted s c.args.node c.args.done.now.job c.args.done.now.ran) (sym c.self.view_is)
    ∙ ap (λ (j : Job). posted (inside c) c.args.node j c.args.done.now.ran) (sym c.job-job.ensures.job)
    ∙ ap (λ (x : Ran). posted (inside c) c.args.node (job c) x) (sym c.ran-ran.ensures)
    ∙ posts (recorded c)
