-- are_replays: a law of books: each is the replay of its journal, and its recorded answers are right.
use Rattle.q_gather.proofs.Finding.{below_read, all_below}
use Rattle.q_gather.proofs.heads.are_replays.Goals as goal

pub loop-book-preserved : goal.loop-book-preserved
loop-book-preserved c =
    below_read _ c.args.books.now c.loop-book.book-index c.loop-book.invariant c.loop-book-test.true c.book-item.is
    (c.journal-journal.ensures.replay, c.desk-desk.ensures.right)

pub returns : goal.returns
returns c = all_below _ c.args.books.now c.loop-book.book-index c.loop-book.invariant c.loop-book-test.false
