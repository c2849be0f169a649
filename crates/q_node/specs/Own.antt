-- What the lock of a node keeps true.
use Rattle.std.specs.Prelude.{◌≡◌, ℕ, List, Option}
use Rattle.q_book.specs.State.{BookState}
use Rattle.q_kept.specs.State.{RecorderState}
use Rattle.q_kept.specs.Recording.{IsRecorded}

-- the book is this node's, and behind what the file held at first stands of its journal what the recorder counts, so
-- that there is a part of the journal which stands there
pub record IsOwn (node : ℕ) (first : Option (List ℕ)) (b : BookState) (r : RecorderState) : Type 0 where
  pub id : b.id ≡ node
  pub recorded : ∥ IsRecorded first b r ∥₁
