-- check_result: whether the result of this job may be recorded at this node, which has these programs and queries.
use Rattle.std.proofs.Common.{ℕ, refl, sym, ap, ◌∙◌, slice_get}
use Rattle.std.proofs.lemmas.Option.{slice_get_read}
use Rattle.q_desk.proofs.check.check_result.Goals as goal

pub returns-clause-runs : goal.returns-clause-runs
returns-clause-runs c =
    let at = c.in-Some.ensures.lookup in
    let read = slice_get_read c.args.queries.now _ c.query.result c.in-Some.query.now refl at.3.0 at.1 in
    record {
      query = c.in-Some.query.now;
      view = c.in-Running.view;
      at = ap (λ (k : ℕ). slice_get c.args.queries.now k) (sym c.query.ensures) ∙ read;
      phase = c.in-Running.is;
      fits = sym c.is_job_of.ensures.told ∙ c.if-not-is_job_of.false;
      serves = c.is_job_of.ensures.serves c.if-not-is_job_of.false;
    }
