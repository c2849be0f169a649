-- merged_books: what `gather_books` answers.
use Rattle.q_gather.specs.Gather.{AreRefused}
use Rattle.q_gather.proofs.Standing.{begins_gathering, gathers_books, unfounded, stuck_on, passed}
use Rattle.q_gather.proofs.gatherer.merged_books.Goals as goal

pub take_all-requires : goal.take_all-requires
take_all-requires c =
    begins_gathering c.args.books.now c.in_ok-cluster.ensures.ok c.are_replays.ensures c.if-not-are_distinct.ensures c.new-gathering.ensures.cluster
    c.new-gathering.ensures.numbers

pub returns-in_err-cluster-clause-refused : goal.returns-in_err-cluster-clause-refused
returns-in_err-cluster-clause-refused c =
    passed (AreRefused c.args.books.now) c.in_err-cluster.field-0.0 c.from_residual.result c.from_residual.ensures.1
    (unfounded c.args.books.now c.if-not-are_distinct.ensures c.in_err-cluster.field-0.0 c.in_err-cluster.ensures.err)

pub returns-in_err-take_all-clause-refused : goal.returns-in_err-take_all-clause-refused
returns-in_err-take_all-clause-refused c =
    passed (AreRefused c.args.books.now) c.in_err-take_all.field-0.0 c.from_residual-in_err-take_all.result c.from_residual-in_err-take_all.ensures.1
    (stuck_on c.args.books.now c.in_ok-cluster.ensures.ok c.if-not-are_distinct.ensures c.in_err-take_all.field-0.0 c.in_err-take_all.ensures.err)

pub returns-clause-gathers : goal.returns-clause-gathers
returns-clause-gathers c =
    gathers_books c.args.books.now c.in_ok-cluster.ensures.ok c.if-not-are_distinct.ensures c.in_ok-take_all.ensures.ok c.into_cluster.ensures
