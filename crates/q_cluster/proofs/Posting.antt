-- A job is refused whatever its answer is.
use Rattle.std.proofs.Common.{◌≡◌, ◌==◌, ℕ, Bool, true, false, not, cond, Option, Some, None, ap, sym, ◌∙◌, refl, slice_get, Result, Ok, Err}
use Rattle.reasons.specs.declared.Reason.TheVariants as reasons
use Rattle.q_desk.specs.State.{DeskState}
use Rattle.q_desk.specs.Desks as desk
use Rattle.q_desk.proofs.Accepted.{no_refusal}
use Rattle.reasons.specs.declared.Reason.{Reason}
use Rattle.q_session.specs.declared.job.Job.{Job}
use Rattle.q_session.specs.declared.query.Phase.{Phase}
use Rattle.q_session.specs.declared.query.Phase.TheVariants.{Collecting, Ready, Running, Answered}
use Rattle.q_session.specs.declared.query.Query.{Query}
use Rattle.q_session.specs.declared.ran.Ran.{Ran}
use Rattle.q_book.specs.State.{BookState}
use Rattle.q_book.specs.Books as book

by_test : {A E : Type 0} (b : Bool) (p q : Result A E) (e x : E) → (p ≡ Err x → q ≡ Err x) → cond b p (Err e) ≡ Err x → cond b q (Err e) ≡ Err x
by_test true p q e x f h = f h
by_test false p q e x f h = h

-- a desk refuses a job, whatever its answer is
module _ (s : DeskState) (j : Job) (r r' : Ran) (x : Reason) where
  to_err : (q : Query) (p : Phase) → desk.posted_to s j r q p ≡ Err x → desk.posted_to s j r' q p ≡ Err x
  to_err q Collecting h = h
  to_err q (Ready view) h = h
  to_err q (Running view) h =
      by_test (desk.is_job_of s.programs j q view) _ _ reasons.Stranger x
      (λ k. by_test (desk.has_room s) _ _ reasons.BookFull x (λ no. absurd (no_refusal x _ (sym no))) k) h
  to_err q (Answered view ran) h = h

  at_err : (o : Option Query) → desk.posted_at s j r o ≡ Err x → desk.posted_at s j r' o ≡ Err x
  at_err None h = h
  at_err (Some q) h = to_err q q.phase h

  posted_err : (node : ℕ) → desk.posted s node j r ≡ Err x → desk.posted s node j r' ≡ Err x
  posted_err node h = by_test (j.node == node) _ _ reasons.Stranger x (λ k. at_err (slice_get s.queries j.query) k) h

module _ (b : BookState) (j : Job) (r r' : Ran) (e : Reason) where
  by_posted : (q : Result (Unit {0} × DeskState) Reason) → desk.posted b.desk b.id j r ≡ q → book.by_desk (book.with_desk b) q ≡ Err e
      → book.by_desk (book.with_desk b) (desk.posted b.desk b.id j r') ≡ Err e
  by_posted (Ok a) is h = absurd (cc)
  by_posted (Err x) is h = ap (book.by_desk (book.with_desk b)) (posted_err b.desk j r r' x b.id is) ∙ h

  pub refused_so : book.posted b j r ≡ Err e → book.posted b j r' ≡ Err e
  refused_so h = by_test (not b.node.gone) _ _ reasons.Gone e (λ k. by_posted (desk.posted b.desk b.id j r) refl k) h
