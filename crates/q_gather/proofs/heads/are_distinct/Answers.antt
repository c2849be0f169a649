-- are_distinct: whether no two books are of one node.
use Rattle.std.proofs.Common.{ℕ, take, refl, sym, subst}
use Rattle.std.proofs.lemmas.Option.{slice_get_read}
use Rattle.q_gather.specs.Gathered.{HasBook}
use Rattle.q_gather.proofs.Agreeing.{distinct_next, distinct_all}
use Rattle.q_gather.proofs.heads.are_distinct.Goals as goal

pub loop-place-preserved : goal.loop-place-preserved
loop-place-preserved c =
    let here = slice_get_read c.args.books.now _ c.loop-place.place c.index-books-place.result refl c.loop-place-test.true c.index-books-place.is in
    distinct_next c.args.books.now c.loop-place.place c.index-books-place.result here
    (λ h. c.if-has_book.ensures (subst (λ (n : ℕ). HasBook (take c.loop-place.place c.args.books.now) n) (sym c.id.ensures) h)) c.loop-place.invariant

pub returns : goal.returns
returns c = distinct_all c.args.books.now c.loop-place.place c.loop-place.invariant c.loop-place-test.false
