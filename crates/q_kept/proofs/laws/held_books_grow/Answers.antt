-- held_books_grow: the book grows by each call under the lock, so what its file holds is of its journal still.
use Rattle.q_kept.proofs.Growing.{asks_grow, hears_grow, leaves_grow, receives_grow, stores_grow}
use Rattle.q_kept.proofs.Settling.{pumps_grow}
use Rattle.q_kept.proofs.laws.held_books_grow.Goals as goal

pub returns : goal.returns
returns c = let same = c.books_grow.ensures.same in let call = c.books_grow.ensures.call in record {
  received = receives_grow same call;
  heard = hears_grow same call;
  stored = stores_grow same call;
  asked = asks_grow same call;
  left = leaves_grow same call;
  pumped = pumps_grow;
}
