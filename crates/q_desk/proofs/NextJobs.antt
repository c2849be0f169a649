-- The job of the first query that is ready.
use Rattle.std.proofs.Common.{◌≡◌, ℕ, true, List, get_or, Option, Some, None, refl, sym, ap, ◌∙◌, slice_get, position, option_map}
use Rattle.std.proofs.lemmas.Bool.{false≢true}
use Rattle.std.proofs.lemmas.List.Quantifiers.{position-Some}
use Rattle.std.proofs.lemmas.Option.{get_or_from_slice_get}
use Rattle.bq_check.specs.Certificate.{Certificate}
use Rattle.q_session.specs.Jobs.{view_in, job_over}
use Rattle.q_session.specs.declared.query.Phase.{Phase}
use Rattle.q_session.specs.declared.query.Phase.TheVariants.{Collecting, Ready, Running, Answered}
use Rattle.q_session.specs.declared.query.Query.{Query}
use Rattle.q_desk.specs.Queries.{is_ready, ready_view, job_on, next_of}

-- a ready query has its job
job-ready : (node k : ℕ) (q : Query) (p : Phase) (c : Certificate) → is_ready p ≡ true
    → option_map (job_over node k q c) (view_in p) ≡ job_on node k q (ready_view p) (Some c)
job-ready node k q (Ready view) c r = refl
job-ready node k q Collecting c r = absurd (false≢true r)
job-ready node k q (Running view) c r = absurd (false≢true r)
job-ready node k q (Answered view ran) c r = absurd (false≢true r)

no-job : (node k : ℕ) (q : Query) (p : Phase) → job_on node k q (ready_view p) None ≡ None
no-job node k q (Ready view) = refl
no-job node k q Collecting = refl
no-job node k q (Running view) = refl
no-job node k q (Answered view ran) = refl

module _ (programs : List Certificate) (queries : List Query) (node k : ℕ) (q : Query)
    (first : position (λ (x : Query). is_ready x.phase) queries ≡ Some k) (there : slice_get queries k ≡ Some q) where
  -- what comes next, where this query is the first that is ready
  here : (o : Option Certificate) → slice_get programs q.program ≡ o → job_on node k q (ready_view q.phase) o ≡ next_of programs queries node
  here o named = rw (first, there, named) refl

  pub next-none : slice_get programs q.program ≡ None → None ≡ next_of programs queries node
  next-none named = sym (no-job node k q q.phase) ∙ here None named

  pub next-some : (c : Certificate) → slice_get programs q.program ≡ Some c → option_map (job_over node k q c) (view_in q.phase) ≡ next_of programs queries node
  next-some c named =
      let passes = position-Some (λ (x : Query). is_ready x.phase) queries k q first in
      let same : get_or queries k q ≡ q = get_or_from_slice_get queries k q q there in
      let ready : is_ready q.phase ≡ true = ap (λ (x : Query). is_ready x.phase) (sym same) ∙ passes.1 in
      job-ready node k q q.phase c ready ∙ here (Some c) named
