-- found_books: the book of each founder, of that version.
use Rattle.std.proofs.Common.{◌∙◌, sym, ap, subst, Result, Err}
use Rattle.std.proofs.lemmas.Result.{err_from_is_err_and}
use Rattle.sc_world.proofs.Acting.{has_at}
use Rattle.reasons.specs.declared.Reason.TheVariants.{OutOfMemory as memory}
use Rattle.reasons.specs.declared.Reason.{Reason}
use Rattle.q_history.specs.Headline.{BookMap}
use Rattle.q_cluster.specs.Founders.{Founds}
use Rattle.q_cluster.proofs.FoundBooks.{found_refused}
use Rattle.q_cluster.proofs.books.found_books.Goals as goal

pub returns-in_err-book : goal.returns-in_err-book
returns-in_err-book c =
    let k = err_from_is_err_and c.from_residual.result c.from_residual.ensures.1 in
    let has = has_at c.args.founders.now c.loop-id.id-index 0 c.loop-id-test.true in
    subst (λ (r : Result BookMap Reason). Founds memory c.args.version c.args.config c.args.founders.now r)
    (sym (k.1 ∙ ap (λ (x : Reason). let r : Result BookMap Reason = Err x in r) k.2))
    (found_refused c.args.version c.args.config c.args.founders.now _ c.in_err-book.field-0.0 has c.in_err-book.ensures)
