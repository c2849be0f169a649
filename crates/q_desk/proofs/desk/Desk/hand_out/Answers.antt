-- Desk::hand_out: hands out the job of the ready query with the least number; none where no query is ready.
use Rattle.std.proofs.Common.{◌≡◌, ℕ, List, slice_get, Some, rules, sym, ap, subst, ◌∙◌, arith}
use Rattle.q_session.specs.declared.query.Phase.TheVariants.{Running}
use Rattle.q_session.specs.declared.query.Query.{Query}
use Rattle.q_desk.specs.State.{DeskState}
use Rattle.q_desk.specs.contracts.desk.Desk as desk
use Rattle.q_desk.specs.Keeping.{MayAllRun}
use Rattle.q_desk.specs.Queries.{next_of}
use Rattle.q_desk.specs.Desks.{with_phase, next_job, handed_out}
use Rattle.q_desk.proofs.Accepted.{next_job-some}
use Rattle.q_desk.proofs.Jobs.{HandsOut, may_all_run, next-same, desk-handed, jobs-handed, handed}
use Rattle.q_desk.proofs.desk.Desk.hand_out.Goals as goal

pub next_job-requires : goal.next_job-requires
next_job-requires c =
    subst (λ (queries : List Query). MayAllRun c.self.inside.programs queries) (sym c.deref.ensures.value) (may_all_run c.self.invariant.0)

module _ (c : goal.After-append) where
  abbrev inside : DeskState
  inside = desk.the_view c.self.inside

  next : Some c.in-Some.job ≡ next_job inside c.args.node
  next =
      sym c.in-Some.is ∙ c.in_ok-job.ensures ∙ ap (λ (queries : List Query). next_of inside.programs queries c.args.node) c.deref.ensures.value
      ∙ next-same inside c.args.node

  hands : HandsOut inside c.args.node c.in-Some.job c.run.new.queries.items c.append.new.entries.items
  hands = record {
    next = next;
    runs =
        let ready = next_job-some inside c.args.node c.in-Some.job (sym next) in
        c.run.ensures ready.query c.in-Some.job.view (ap (slice_get inside.queries) c.query.ensures ∙ ready.at) ready.phase
        ∙ ap (λ (k : ℕ). with_phase inside.queries k (Running c.in-Some.job.view)) c.query.ensures;
    appended = record { room = search rules; is = search rules };
  }

pub invariant_of-self-2 : goal.invariant_of-self-2
invariant_of-self-2 c = (
  desk-handed (hands c) c.self.invariant.0,
  record { counted = omega (arith, c.self.invariant.1.counted, jobs-handed (hands c)); fits = search rules },
)

pub returns : goal.returns
returns c = ap (λ (s : DeskState). handed_out s c.args.node) (sym c.self.view_is) ∙ handed (hands c)
