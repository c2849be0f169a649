-- Book::entering_as: the same of any version, for replays.
use Rattle.q_book.proofs.Calls.{entered_book}
use Rattle.q_book.proofs.book.Book.entering_as.Goals as goal

pub invariant_of-book : goal.invariant_of-book
invariant_of-book c = entered_book c.args.version c.args.id c.args.config c.in_ok-node.ensures c.new.ensures c.record_lengths.ensures
