-- What a job that is finished makes of a cluster: its node records the answer, or refuses it.
use Rattle.std.proofs.Common.{◌≡◌, ℕ, length, Option, Some, None, refl, sym, ap, subst, ◌∙◌, slice_get, Result, Ok, Err}
use Rattle.std.specs.Prelude.{IfSome, IsErrAnd}
use Rattle.std.specs.FinMap as fin
use Rattle.sc_world.specs.declared.event.Sent.{Sent}
use Rattle.q_session.specs.Done.{Finished, IsFinished}
use Rattle.q_session.specs.declared.job.Job.{Job}
use Rattle.q_session.specs.declared.ran.Ran.{Ran}
use Rattle.q_book.specs.State.{BookState}
use Rattle.q_book.specs.Books as book
use Rattle.reasons.specs.declared.Reason.{Reason}
use Rattle.q_history.specs.declared.event.ClusterEvent.TheVariants as event
use Rattle.q_history.specs.declared.event.ClusterStep.{ClusterStep}
use Rattle.q_history.specs.declared.event.EventAnswer.TheVariants as told
use Rattle.q_history.specs.Headline.{ClusterState}
use Rattle.q_history.specs.Clusters.{lift, put, posts, posted, finished}
use Rattle.q_history.specs.Calls.{Answers, Takes, IsHistory}
use Rattle.q_cluster.specs.Acts.{IsThere, MayRun}
use Rattle.q_cluster.proofs.Posting.{refused_so}
use Rattle.q_cluster.proofs.Histories.{GoesTo, told_as}
use Rattle.q_cluster.proofs.Calls.{posting}
use Rattle.q_cluster.proofs.Going.{IsEvent, has_book, turns_to, stays, refuses_all, goes_on}

-- In a cluster c that comes of events, and that contracts see as x, the job of this number may run. It was run, as f says,
-- and k is what was read of it then.
pub record IsRun (c x : ClusterState) (number : ℕ) (f : Finished) (k : Job) : Type 0 where
  pub old : IsHistory c
  pub same : c ≡ x
  pub job : Job
  pub may : MayRun x number job
  pub ran : f.job ≡ job
  pub read : k ≡ f.job

module _ {c x : ClusterState} {number : ℕ} {f : Finished} {k : Job} (run : IsRun c x number f k) where
  is_job : k ≡ run.job
  is_job = run.read ∙ run.ran

  there : IsThere x k.node
  there = subst (λ (q : Job). IsThere x q.node) (sym is_job) run.may.there

  -- its node has a book
  pub finish_has : None ≡ fin.get c.books k.node → ⊥
  finish_has = has_book run.same there

  module _ {b : BookState} (has : Some b ≡ fin.get c.books k.node) (right : IsFinished f) where
    job_is : slice_get c.jobs number ≡ Some k
    job_is =
        ap (λ (z : ClusterState). slice_get z.jobs number) run.same ∙ run.may.job
        ∙ ap (λ (q : Job). let o : Option Job = Some q in o) (sym is_job)

    same_post : book.posted b k f.ran ≡ book.posted b f.job f.ran
    same_post = ap (λ (q : Job). book.posted b q f.ran) run.read

    answers : Answers k f.ran
    answers = subst (λ (q : Job). Answers q f.ran) (sym run.read) right

    post : IsEvent (posting number k f.ran) c x k.node b
    post = record {
      old = run.old;
      same = run.same;
      there = there;
      has = has;
      ran = f.ran;
      is_of = (subst (λ (o : Option Job). IfSome o (λ q. Answers q f.ran)) (sym job_is) answers, ap (finished c f.ran) job_is);
    }

    turns : (r : Ran) → finished c r (slice_get c.jobs number) ≡ lift (posts c k r) (book.posted b k r)
    turns r = ap (finished c r) job_is ∙ turns_to run.same there has (posted c k r)

    -- the book refuses
    module _ {b' : BookState} {y : Reason} (steps : (b' ≡ b) × (book.posted b f.job f.ran ≡ Err y)) where
      pub finish_stays : IsHistory (put c c.past c.jobs k.node b')
      finish_stays = stays post (steps.0, λ _. same_post ∙ steps.1) refl refl

      pub finish_refuses : (t : Result ClusterStep Reason) → IsErrAnd t (λ e. e ≡ y)
          → Takes x (event.Finish number) (put c c.past c.jobs k.node b') t
      finish_refuses =
          refuses_all post (steps.0, λ _. same_post ∙ steps.1) refl refl
          (λ r loud. turns r ∙ ap (lift (posts c k r)) (refused_so b k f.ran r y (same_post ∙ steps.1)))

    -- the book records the answer
    pub finish_goes : {b' : BookState} {sent : Sent} {t : ClusterStep} → book.posted b f.job f.ran ≡ Ok (tt, b')
        → sent ≡ record { first = length c.past.sent; count = 0 }
        → t ≡ record { told = told.Finished (record { node = k.node; query = k.query; ran = f.ran }); sent = sent }
        → GoesTo x (event.Finish number) t (put c c.past c.jobs k.node b')
    finish_goes {b'} steps numbers tells =
        let so = told_as tells numbers in
        goes_on post (same_post ∙ steps) (λ i. (sym so i, put c c.past c.jobs k.node b'))
