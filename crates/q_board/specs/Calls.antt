-- What the board's calls do to a seat.
use Rattle.std.specs.Prelude.{◌≡◌, ◌≢◌, ℕ, ◌-◌, ◌*◌, List, [], ◌∷◌, ◌++◌, slice_set, Option, Some, None}
use mathlib.Core.Option.{some}
use lib.ListN.{get_elem?}
use Rattle.q_session.specs.declared.job.Job.{Job}
use Rattle.q_session.specs.declared.ran.Ran.{Ran}
use Rattle.q_session.specs.Done.{Finished}
use Rattle.q_board.specs.declared.found.Found.{Found}
use Rattle.q_board.specs.declared.found.Found.TheVariants as found
use Rattle.q_board.specs.Plays.{look}
use Rattle.q_board.specs.AskerModel.{AskerModel}
use Rattle.q_board.specs.RunnerModel.{RunnerModel}

-- the board and the number stay
abbrev pub SameAsker : AskerModel → AskerModel → Type 0
SameAsker a b = (b.table ≡ a.table) × (b.number ≡ a.number)

-- the board, the number, and whose turn it is stay
abbrev pub SameRunner : RunnerModel → RunnerModel → Type 0
SameRunner r q = (q.table ≡ r.table) × (q.number ≡ r.number) × (q.lanes ≡ r.lanes) × (q.next ≡ r.next)

-- the place of a slot in an asker's row
abbrev pub row_place : AskerModel → ℕ → ℕ
row_place a i = i - 8 * a.number

abbrev pub is_at : List (Option Job) → ℕ → Option Job → Type 0
is_at row k x = get_elem? row k ≡ some x

-- the job is offered in the slot i, where none was open
abbrev pub Offers : AskerModel → ℕ → Job → AskerModel → Type 0
Offers a i j b =
    is_at a.row (row_place a i) None
    × (b ≡ record a { offered = a.offered ++ j ∷ []; row = slice_set a.row (row_place a i) (Some j) })

-- one look, which showed no finished job
abbrev pub LooksOnly : AskerModel → ℕ → AskerModel → Type 0
LooksOnly a i b = (f : Found) × (f ≢ found.Finished) × (b ≡ record a { looks = a.looks ++ look i f ∷ [] })

-- one look, which showed a finished job, and its result, of the job that was open in the slot
abbrev pub Receives : AskerModel → ℕ → Finished → AskerModel → Type 0
Receives a i d b =
    is_at a.row (row_place a i) (Some d.job)
    × (b ≡ record a { received = a.received ++ d ∷ []; row = slice_set a.row (row_place a i) None; looks = a.looks ++ look i found.Finished ∷ [] })

-- one exchange, which found the slot not ready
abbrev pub Misses : RunnerModel → ℕ → RunnerModel → Type 0
Misses r i q = (f : Found) × (f ≢ found.Ready) × (q ≡ record r { looks = r.looks ++ look i f ∷ [] })

-- one exchange, which found the slot ready and claimed its job
abbrev pub Claims : RunnerModel → ℕ → Job → RunnerModel → Type 0
Claims r i j q =
    is_at r.held i None
    × (q ≡ record r { held = slice_set r.held i (Some j); looks = r.looks ++ look i found.Ready ∷ [] })

-- the claim's job is finished with this answer
abbrev pub Finishes : RunnerModel → ℕ → Job → Ran → RunnerModel → Type 0
Finishes r i j ran q =
    q ≡ record r { held = slice_set r.held i None; finished = r.finished ++ record { job = j; ran = ran } ∷ [] }

-- the claim is let go
abbrev pub GivesBack : RunnerModel → ℕ → RunnerModel → Type 0
GivesBack r i q = q ≡ record r { held = slice_set r.held i None }
