-- Notes::all_fit_lengths: whether all states fit.
use Rattle.std.proofs.Common.{rules, ◌≡◌, Some, false, IsTrue, sym, ◌∙◌}
use Rattle.bq_sound.specs.Passes.{note_at, AllFitLengths}
use Rattle.bq_check.proofs.notes.Notes.all_fit_lengths.Goals as goal

pub returns-then-not-fits_lengths : goal.returns-then-not-fits_lengths
returns-then-not-fits_lengths c =
    let never : IsTrue false → AllFitLengths c.args.bounds c.args.self.now = search rules in
    let noted : note_at c.args.self.now c.loop-unit.unit ≡ Some c.in-Some.state = sym c.at.ensures ∙ c.in-Some.is in
    (never, λ all. let fits : IsTrue c.fits_lengths.result = c.fits_lengths.ensures.1 (all.each c.loop-unit.unit c.in-Some.state noted) in search rules)
