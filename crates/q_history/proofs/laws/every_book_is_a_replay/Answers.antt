-- every_book_is_a_replay: a law: in every history of founders that are not refused, each node with its desk is the
-- replay of its own journal, also where the node has left or crashed.
use Rattle.q_history.proofs.EveryBook.{every_book}
use Rattle.q_history.proofs.laws.every_book_is_a_replay.Goals as goal

pub returns : goal.returns
returns c = λ version config founders events d begun h. every_book version config founders events d begun h
