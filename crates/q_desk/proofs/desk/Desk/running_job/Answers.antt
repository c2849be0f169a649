-- Desk::running_job: the job of a query that runs, as desk of this node; none where no such query runs.
use Rattle.std.proofs.Common.{List, refl, sym, ap, ◌∙◌, slice_get}
use Rattle.std.proofs.lemmas.Option.{slice_get_read}
use Rattle.q_session.specs.declared.query.Query.{Query}
use Rattle.q_desk.proofs.Jobs.{may_all_run}
use Rattle.q_desk.proofs.desk.Desk.running_job.Goals as goal

pub of-requires : goal.of-requires
of-requires c =
    let q = c.in-Some.asked.now in
    let at = c.in-Some.ensures.lookup in
    let read = slice_get_read c.deref.result.now _ c.args.query q refl at.3.0 at.1 in
    let there = ap (λ (queries : List Query). slice_get queries c.args.query) (sym c.deref.ensures.value) ∙ read in
    may_all_run c.self.invariant.0 c.args.query q c.in-Some-get.program.now there (sym c.in-Some-get.ensures)
