-- gather_books: the same of books that stand, which are not replayed: the cluster in which just what their journals
-- say happened.
use Rattle.q_gather.proofs.Standing.{gathers_all}
use Rattle.q_gather.proofs.gatherer.gather_books.Goals as goal

pub returns-clause-all : goal.returns-clause-all
returns-clause-all c = gathers_all c.args.books.now c.merged_books.result c.merged_books.ensures.gathers c.merged_books.ensures.refused
