-- Gathering::have_taken: whether the nodes have taken all entries of their books.
use Rattle.q_gather.proofs.Finding.{below_read, all_below}
use Rattle.q_gather.proofs.gathering.Gathering.have_taken.Goals as goal

pub loop-book-preserved : goal.loop-book-preserved
loop-book-preserved c =
    below_read _ c.args.books.now c.loop-book.book-index c.loop-book.invariant c.loop-book-test.true c.book-item.is c.if-not-has_taken.ensures

pub returns : goal.returns
returns c = all_below _ c.args.books.now c.loop-book.book-index c.loop-book.invariant c.loop-book-test.false
