-- has_book: whether one of the books is of this node.
use Rattle.std.proofs.Common.{◌∙◌, refl, sym}
use Rattle.std.proofs.lemmas.Option.{slice_get_read}
use Rattle.q_gather.proofs.Finding.{below_read, all_below}
use Rattle.q_gather.proofs.heads.has_book.Goals as goal

pub returns-then-id : goal.returns-then-id
returns-then-id c = record {
  place = c.loop-book.book-index;
  book = c.book-item.result;
  at = slice_get_read c.args.books.now _ c.loop-book.book-index c.book-item.result refl c.loop-book-test.true c.book-item.is;
  of = sym c.id.ensures ∙ c.if-id.true;
}

pub loop-book-preserved : goal.loop-book-preserved
loop-book-preserved c =
    below_read _ c.args.books.now c.loop-book.book-index c.loop-book.invariant c.loop-book-test.true c.book-item.is
    (λ same. c.if-id.false (c.id.ensures ∙ same))

pub returns : goal.returns
returns c = λ h. all_below _ c.args.books.now c.loop-book.book-index c.loop-book.invariant c.loop-book-test.false h.place h.book h.at h.of
