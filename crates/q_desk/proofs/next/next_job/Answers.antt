-- next_job: the job of the ready query with the least number, of this node; none where no query is ready.
use Rattle.std.proofs.Common.{◌≡◌, Option, sym, subst, refl, IfOk}
use Rattle.std.proofs.lemmas.Option.{slice_get_read}
use Rattle.q_session.specs.declared.job.Job.{Job}
use Rattle.q_session.specs.Jobs.{job_of}
use Rattle.q_desk.specs.Queries.{next_of}
use Rattle.q_desk.proofs.NextJobs.{next-none, next-some}
use Rattle.q_desk.proofs.next.next_job.Goals as goal

pub of-requires : goal.of-requires
of-requires c =
    let at = c.in-Some-get.ensures.lookup in
    let q = c.in-Some-get.query.now in
    let there = slice_get_read c.args.queries.now _ c.in-Some.number q refl at.3.0 at.1 in
    c.requires c.in-Some.number q c.in-Some-get-2.program.now there (sym c.in-Some-get-2.ensures)

pub returns-in_default-get-2 : goal.returns-in_default-get-2
returns-in_default-get-2 c =
    let at = c.in-Some-get.ensures.lookup in
    let q = c.in-Some-get.query.now in
    let there = slice_get_read c.args.queries.now _ c.in-Some.number q refl at.3.0 at.1 in
    next-none c.args.programs.now c.args.queries.now c.args.node c.in-Some.number q (sym c.in-Some.ensures) there (sym c.in_default-get-2.ensures)

pub returns : goal.returns
returns c =
    let at = c.in-Some-get.ensures.lookup in
    let q = c.in-Some-get.query.now in
    let program = c.in-Some-get-2.program.now in
    let there = slice_get_read c.args.queries.now _ c.in-Some.number q refl at.3.0 at.1 in
    let same : job_of c.args.node c.in-Some.number q program ≡ next_of c.args.programs.now c.args.queries.now c.args.node =
    next-some c.args.programs.now c.args.queries.now c.args.node c.in-Some.number q (sym c.in-Some.ensures) there program (sym c.in-Some-get-2.ensures) in
    subst (λ (o : Option Job). IfOk c.of.result (λ job. job ≡ o)) same c.of.ensures
