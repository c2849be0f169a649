-- What the journal of a book wants and gives: the messages that reach the node, and those that it sends.
use Rattle.std.specs.Prelude.{◌≡◌, ℕ, List, [], ◌∷◌, ◌++◌, Option, Some, None}
use Rattle.sc_msg.specs.declared.message.Message.{Message}
use Rattle.sc_node.specs.State.{NodeState}
use Rattle.q_desk.specs.declared.journal.Entry.{Entry}
use Rattle.q_desk.specs.declared.journal.Entry.TheVariants as entry
use Rattle.q_book.specs.State.{BookState}
use Rattle.q_book.specs.Books.{new_book, entered}
use Rattle.q_book.specs.Replays.{Follows, IsFirst}
use Rattle.q_book.specs.Sends.{sends}
use Rattle.q_gather.specs.Merging.{Step}

-- ---- one entry

abbrev pub wants : Entry → Option Message
wants (entry.Deliver m) = Some m
wants e = None

abbrev pub step_of : BookState → Entry → Step Message
step_of b e = record { wants = wants e; gives = sends b e }

-- ---- all entries

-- the steps of these entries, whose calls lead from one book to another
abbrev pub IsTraceFrom : BookState → List Entry → List (Step Message) → BookState → Type 0
IsTraceFrom b [] steps c = (steps ≡ []) × (c ≡ b)
IsTraceFrom b (e ∷ es) steps c =
    (between : BookState) × Follows b e between × (rest : List (Step Message)) × (steps ≡ step_of b e ∷ rest) × IsTraceFrom between es rest c

-- a node that enters first sends that it does; a founder does not
abbrev pub entering : BookState → Option (List ℕ) → List (Step Message)
entering b (Some ids) = []
entering b None = record { wants = None; gives = (entered b.version b.config b.id).1 } ∷ []

-- the steps of a book, from its first state on
pub record IsTrace (b : BookState) (steps : List (Step Message)) : Type 0 where
  pub first : NodeState
  pub begun : IsFirst b first b.founders
  pub rest : List (Step Message)
  pub trace : IsTraceFrom (new_book b.version b.id b.config b.founders first) b.desk.journal rest b
  pub is : steps ≡ entering b b.founders ++ rest
