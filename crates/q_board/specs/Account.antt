-- Where each job is.
use Rattle.std.specs.Prelude.{◌≡◌, ℕ, ◌+◌, ◌*◌, ◌<◌, ◌⊎◌, length, slice_index, Option, Some, None, Contains}
use mathlib.Core.Option.{some}
use lib.ListN.{get_elem?}
use Rattle.atomic_table.specs.Table.{State}
use Rattle.q_board.specs.Rule.{Balanced}
use Rattle.q_session.specs.declared.job.Job.{Job}
use Rattle.q_session.specs.Done.{Finished}
use Rattle.q_board.specs.declared.cell.Content.{Content}
use Rattle.q_board.specs.declared.cell.Content.TheVariants as cell
use Rattle.q_board.specs.declared.view.Asking.{Asking}
use Rattle.q_board.specs.declared.view.Running.{Running}
use Rattle.q_board.specs.declared.view.Holder.{Holder}
use Rattle.q_board.specs.declared.view.Holder.TheVariants.{Runner}

abbrev pub InSlot : State Content Holder → ℕ → Job → Type 0
InSlot s i j = (slice_index s.words i ≡ 1) × (get_elem? s.homes i ≡ some (some (cell.Offered j)))

abbrev pub HeldBy : State Content Holder → ℕ → Job → Type 0
HeldBy s i j =
    (r : ℕ) × (v : Running) × (slice_index s.words i ≡ 3 + r) × (get_elem? s.views r ≡ some (Runner v)) × (v.number ≡ r)
    × (get_elem? v.held i ≡ some (Some j))

abbrev pub HasResult : State Content Holder → ℕ → Job → Type 0
HasResult s i j =
    (d : Finished) × (d.job ≡ j) × (slice_index s.words i ≡ 2) × (get_elem? s.homes i ≡ some (some (cell.Finished d)))
    × (r : ℕ) × (v : Running) × (get_elem? s.views r ≡ some (Runner v)) × Contains v.finished d

abbrev pub Accounted : State Content Holder → ℕ → Option Job → Type 0
Accounted s i None = slice_index s.words i ≡ 0
Accounted s i (Some j) = InSlot s i j ⊎ (HeldBy s i j ⊎ HasResult s i j)

-- what the asker offered is what it received and what is open, and each open job is in its slot or with one runner
abbrev pub Accounts : State Content Holder → Asking → Type 0
Accounts s a = Balanced a × ((k : ℕ) → k < 8 → (x : Option Job) × (get_elem? a.row k ≡ some x) × Accounted s (8 * a.number + k) x)

-- a claim that a runner's seat has is the word's
abbrev pub HoldsOwn : State Content Holder → ℕ → Running → Type 0
HoldsOwn s id v = (i : ℕ) (j : Job) → i < length s.words → get_elem? v.held i ≡ some (Some j) → slice_index s.words i ≡ 3 + id
