-- notes_of: the notes that the bytes spell in a form.
use Rattle.std.proofs.Common.{◌≡◌, ◌==◌, List, ℕ, length, false, true, ap, ◌∙◌}
use Rattle.std.proofs.lemmas.Result.{err_from_is_err_and}
use Rattle.bq_check.proofs.Read.{passed_on, left_over}
use Rattle.bq_check.proofs.reading.notes_of.Goals as goal

pub returns-in_err-notes-clause-refused : goal.returns-in_err-notes-clause-refused
returns-in_err-notes-clause-refused c =
    let p = err_from_is_err_and c.from_residual.result c.from_residual.ensures.1 in
    passed_on c.args.form c.args.bytes.now c.from_residual.result p.0 c.in_err-notes.field-0.0 p.1 p.2 c.in_err-notes.ensures.fault

pub returns-then-not-is_empty-clause-refused : goal.returns-then-not-is_empty-clause-refused
returns-then-not-is_empty-clause-refused c =
    let some : false ≡ (length c.notes.new.self.rest.now == 0) = c.if-not-is_empty.ensures in
    λ _. left_over c.args.form c.args.bytes.now c.in_ok-notes.notes c.notes.new.self.rest.now c.in_ok-notes.ensures.legal c.in_ok-notes.ensures.parts
    (λ e. let bad : false ≡ true = some ∙ ap (λ (l : List ℕ). length l == 0) e in absurd cc)
