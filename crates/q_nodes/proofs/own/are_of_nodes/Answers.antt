-- are_of_nodes: whether these are the books of as many nodes, in the order of their ids.
use Rattle.std.proofs.Common.{refl, ◌+◌, arith}
use Rattle.std.proofs.lemmas.Option.{slice_get_read}
use Rattle.q_nodes.proofs.Nodes.{all_books, book_next}
use Rattle.q_nodes.proofs.own.are_of_nodes.Goals as goal

pub loop-place-preserved : goal.loop-place-preserved
loop-place-preserved c =
    let at = slice_get_read c.args.books.now _ c.loop-place.place c.index-books-place.result refl c.loop-place-test.true c.index-books-place.is in
    book_next c.args.books.now c.loop-place.place c.index-books-place.result c.loop-place.invariant at c.if-not-is_of.ensures

pub returns : goal.returns
returns c = all_books c.args.books.now c.loop-place.place c.loop-place.invariant c.loop-place-test.false

pub returns-then-not-is_of : goal.returns-then-not-is_of
returns-then-not-is_of c = record {
  node = c.loop-place.place + 1;
  is_node = (omega arith, omega (arith, c.loop-place-test.true));
  book = c.index-books-place.result;
  other = c.if-not-is_of.ensures;
}
