-- The books of a cluster: each is the replay of its own journal.
use Rattle.std.specs.Prelude.{◌≡◌, ℕ, Some}
use Rattle.std.specs.FinMap as fin
use Rattle.q_book.specs.State.{BookState}
use Rattle.q_book.specs.Replays.{IsReplay}
use Rattle.q_history.specs.Headline.{ClusterState}
use Rattle.q_history.specs.Heads.{IsHeaded}

-- each book is headed as that of its node, and is the replay of its journal
abbrev pub BooksAreReplays : ClusterState → Type 0
BooksAreReplays c = (id : ℕ) (b : BookState) → fin.get c.books id ≡ Some b → IsHeaded c id b × IsReplay b
