-- are_headed: whether all books have this version and these fractions, and those of the founders have these
-- founders.
use Rattle.q_gather.proofs.Finding.{below_read, all_below}
use Rattle.q_gather.proofs.heads.are_headed.Goals as goal

pub loop-book-preserved : goal.loop-book-preserved
loop-book-preserved c =
    below_read _ c.args.books.now c.loop-book.book-index c.loop-book.invariant c.loop-book-test.true c.book-item.is c.if-not-is_headed.ensures

pub returns : goal.returns
returns c = all_below _ c.args.books.now c.loop-book.book-index c.loop-book.invariant c.loop-book-test.false
