-- Gathering::has_taken: whether the cluster has taken each event of this book.
use Rattle.q_gather.proofs.Numbering.{taken_test}
use Rattle.std.proofs.Common.{◌∙◌, ap}
use Rattle.q_cluster.specs.Acts.{book_at}
use Rattle.q_gather.proofs.gathering.Gathering.has_taken.Goals as goal

pub returns-in-Some : goal.returns-in-Some
returns-in-Some c =
    taken_test c.args.self.now.cluster c.args.book.now (c.in-Some.ensures ∙ ap (book_at c.args.self.now.cluster) c.id.ensures)
    c.events.ensures c.events-in-Some.ensures
