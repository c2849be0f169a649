-- merged: what `gather` answers.
use Rattle.q_gather.proofs.Replaying.{gathered_so, left_so}
use Rattle.q_gather.proofs.gatherer.merged.Goals as goal

pub returns-clause-gathers : goal.returns-clause-gathers
returns-clause-gathers c = gathered_so c.in_ok-books.ensures.books c.deref.ensures.value c.merged_books.result c.merged_books.ensures.gathers

pub returns-clause-refused : goal.returns-clause-refused
returns-clause-refused c = left_so c.in_ok-books.ensures.books c.deref.ensures.value c.merged_books.result c.merged_books.ensures.refused
