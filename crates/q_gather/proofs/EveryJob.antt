-- In every history each job is that of its query, and each query that runs has one.
use Rattle.std.proofs.Common.{◌≡◌, ℕ, ◌==◌, Bool, true, false, cond, List, [], ◌∷◌, Some, refl, sym, ap, ◌∙◌, subst, slice_get}
use Rattle.std.proofs.lemmas.Bool.{eqb-true, eqb-false}
use Rattle.std.specs.FinMap as fin
use Rattle.sc_members.specs.Members.{Config}
use Rattle.sc_msg.specs.declared.version.Version.{Version}
use Rattle.sc_world.proofs.Finite.{get-insert}
use Rattle.q_session.specs.declared.job.Job.{Job}
use Rattle.q_desk.specs.State.{DeskState}
use Rattle.q_desk.proofs.Changes.{Change}
use Rattle.q_book.specs.State.{BookState}
use Rattle.q_book.specs.Books as book
use Rattle.q_book.specs.Sends.{handed}
use Rattle.q_history.specs.declared.event.ClusterEvent.{ClusterEvent}
use Rattle.q_history.specs.Headline.{BookMap, ClusterState}
use Rattle.q_history.specs.Clusters.{with_job, start}
use Rattle.q_history.specs.Calls.{Reaches, IsHistory}
use Rattle.q_history.proofs.Lists.{same_Some, none-some}
use Rattle.q_history.proofs.Ops.{each_put}
use Rattle.q_history.proofs.World.{at_live}
use Rattle.q_history.proofs.Kept.{IsKept}
use Rattle.q_history.proofs.Called.{IsCalled, tells, accepted, IsMade, enters, crashes, rests, calls, event_is}
use Rattle.q_history.proofs.Founders.{every_founder}
use Rattle.q_history.proofs.EveryHistory.{step_kept, start_kept}
use Rattle.q_gather.proofs.HistoryJobs.{AreJobsOf, away_jobs, change_jobs}

-- the jobs of each node are those of its desk
abbrev pub JobsAre : BookMap → List Job → Type 0
JobsAre books jobs = (id : ℕ) (b : BookState) → fin.get books id ≡ Some b → AreJobsOf jobs id b.desk

-- a book is put in, and jobs of its node come
module _ (books : BookMap) (jobs later : List Job) (id : ℕ) (b : BookState) (are : JobsAre books jobs) (new : AreJobsOf later id b.desk)
    (others : (q : ℕ) (x : DeskState) → (q ≡ id → ⊥) → AreJobsOf jobs q x → AreJobsOf later q x) where
  put_by : (q : ℕ) (x : BookState) (here : Bool) → (q == id) ≡ here → cond here (Some b) (fin.get books q) ≡ Some x → AreJobsOf later q x.desk
  put_by q x true is at =
      subst (λ (p : ℕ). AreJobsOf later p x.desk) (sym (eqb-true q id is)) (subst (λ (y : BookState). AreJobsOf later id y.desk) (same_Some b x at) new)
  put_by q x false is at = others q x.desk (eqb-false q id is) (are q x at)

  put_jobs : JobsAre (fin.insert books id b) later
  put_jobs q x at = put_by q x (q == id) refl (sym (get-insert books id b q) ∙ at)

module _ (c : ClusterState) (kept : IsKept c) (are : JobsAre c.books c.jobs) where
  called_jobs : (d : ClusterState) → IsCalled c d → JobsAre d.books d.jobs
  called_jobs d k =
      let at = at_live c k.id k.book k.live in
      let b = k.book.desk in
      let e = k.later.desk in
      let o = handed k.book k.entry in
      let t = tells c d k in
      let a = accepted c d k in
      let change : Change b k.id t e o = subst (λ (n : ℕ). Change b n t e o) (kept.headed k.id k.book at).id a.change in
      subst (λ (x : ClusterState). JobsAre x.books x.jobs) k.is
      (put_jobs c.books c.jobs (with_job c.jobs o) k.id k.later are (change_jobs c.jobs change a.keeps.programs (are k.id k.book at)) (away_jobs c.jobs change))

  made_jobs : (d : ClusterState) → IsMade c d → JobsAre d.books d.jobs
  made_jobs d (enters id none is) =
      let b = (book.entered c.version c.past.config id).0 in
      subst (λ (x : ClusterState). JobsAre x.books x.jobs) is
      (each_put c.books id b (λ q x. AreJobsOf c.jobs q x.desk)
      (record {
        each = λ number j at by. let k = kept.jobs number j at in absurd (none-some k.book (sym none ∙ ap (fin.get c.books) (sym by) ∙ k.at));
        all = λ k q v at runs. absurd (none-some q at);
      })
      are)
  made_jobs d (crashes id b live is) = subst (λ (x : ClusterState). JobsAre x.books x.jobs) is are
  made_jobs d (rests id b live is) =
      subst (λ (x : ClusterState). JobsAre x.books x.jobs) is (each_put c.books id b (λ q x. AreJobsOf c.jobs q x.desk) (are id b (at_live c id b live)) are)
  made_jobs d (calls k) = called_jobs d k

jobs_run : (es : List ClusterEvent) (c d : ClusterState) → IsKept c → JobsAre c.books c.jobs → Reaches c es d → JobsAre d.books d.jobs
jobs_run [] c d kept are r = subst (λ (x : ClusterState). JobsAre x.books x.jobs) (sym r) are
jobs_run (e ∷ es) c d kept are r = jobs_run es r.1 d (step_kept c r.1 e r.0 kept r.2).kept (made_jobs c kept are r.1 (event_is c e r.0 r.1 r.2)) r.3

-- no founder has a query yet
start_jobs : (version : Version) (config : Config) (ids : List ℕ) → JobsAre (start version config ids).books []
start_jobs version config ids id b at = record {
  each = λ number j here by. absurd (none-some j here);
  all = λ k q v here runs.
      let new = (every_founder version config ids id b at).is in
      absurd (none-some q (ap (λ (x : BookState). slice_get x.desk.queries k) new ∙ here));
}

pub history_jobs : (c : ClusterState) → IsHistory c → JobsAre c.books c.jobs
history_jobs c h =
    jobs_run h.0 _ c (start_kept c.version c.past.config c.past.founders) (start_jobs c.version c.past.config c.past.founders) h.1
