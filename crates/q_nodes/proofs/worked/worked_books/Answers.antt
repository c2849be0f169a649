-- worked_books: of which books lines are told as of one cluster.
use Rattle.q_nodes.proofs.Untold.{gathers, ungathered}
use Rattle.q_nodes.proofs.worked.worked_books.Goals as goal

pub returns-clause-ungathered : goal.returns-clause-ungathered
returns-clause-ungathered c = ungathered

pub returns-clause-gathers : goal.returns-clause-gathers
returns-clause-gathers c = gathers
