-- one_book: a journal is that of one book at most.
use Rattle.q_replay.proofs.Firsts.{book_one}
use Rattle.q_replay.proofs.laws.one_book.Goals as goal

pub returns : goal.returns
returns c = book_one c.one_longest.ensures c.one_head.ensures c.one_event.ensures
