-- Book::founder_as: the same of any version, for replays.
use Rattle.q_book.proofs.Calls.{founded_book}
use Rattle.q_book.proofs.book.Book.founder_as.Goals as goal

pub invariant_of-result : goal.invariant_of-result
invariant_of-result c =
    founded_book c.args.version c.args.id c.args.config c.args.founders.now
    c.in_ok-node.ensures c.in_ok-founders.ensures.items c.new.ensures c.record_lengths.ensures
