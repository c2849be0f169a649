-- The rule of the board.
use Rattle.std.specs.Prelude.{◌≡◌, ℕ, ◌+◌, ◌*◌, ◌<◌, ◌≤◌, List, [], ◌∷◌, map, length, Option, Some, None, Contains}
use mathlib.Core.Option.{some}
use lib.ListN.{get_elem?}
use Rattle.atomic_table.specs.Table.{State}
use Rattle.q_board.specs.Phase.{Phase, claimed, finished, code, shelf, job_of, held_by, IsFresh, IsFinished}
use Rattle.q_session.specs.declared.job.Job.{Job}
use Rattle.q_session.specs.Done.{Finished}
use Rattle.q_board.specs.declared.cell.Content.{Content}
use Rattle.q_board.specs.declared.view.Asking.{Asking}
use Rattle.q_board.specs.declared.view.Running.{Running}
use Rattle.q_board.specs.declared.view.Holder.{Holder}
use Rattle.q_board.specs.declared.view.Holder.TheVariants.{Maker, Asker, Runner}

abbrev pub total : {A : Type 0} → (A → ℕ) → List A → ℕ
total f [] = 0
total f (x ∷ xs) = f x + total f xs

abbrev pub weight : (Job → ℕ) → Option Job → ℕ
weight h None = 0
weight h (Some j) = h j

abbrev pub maker : ℕ → ℕ → Holder
maker lanes made = Maker (record { lanes = lanes; made = made })

-- the place of a seat among the views
abbrev pub place : Holder → ℕ
place (Maker m) = 0
place (Asker a) = a.number + 1
place (Runner r) = r.number

-- however jobs are weighed, what was offered is what was received and what is open
abbrev pub Balanced : Asking → Type 0
Balanced a = (h : Job → ℕ) → total h a.offered ≡ total (λ d. h d.job) a.received + total (weight h) a.row

abbrev pub FitsSlot : Asking → ℕ → Phase → Type 0
FitsSlot a k p =
    (get_elem? a.row k ≡ some (job_of p))
    × (k < a.opened → ¬ IsFresh p)
    × (a.opened ≤ k → IsFresh p)
    × (a.shown ≡ Some (8 * a.number + k) → IsFinished p)

abbrev pub Fits : List Phase → ℕ → Holder → Type 0
Fits phases seats (Maker m) =
    (m.made + 1 ≡ seats) × (m.lanes ≡ length phases)
    × ((i : ℕ) (p : Phase) → get_elem? phases i ≡ some p → 8 * m.made ≤ i → IsFresh p)
Fits phases seats (Asker a) =
    (8 * a.number + 8 ≤ length phases) × (length a.row ≡ 8) × Balanced a
    × ((k : ℕ) (p : Phase) → k < 8 → get_elem? phases (8 * a.number + k) ≡ some p → FitsSlot a k p)
Fits phases seats (Runner r) =
    (i : ℕ) (p : Phase) → get_elem? phases i ≡ some p → get_elem? r.held i ≡ some (held_by r.number p)

pub record Orderly (lanes : ℕ) (s : State Content Holder) : Type 0 where
  pub phases : List Phase
  pub count : length phases ≡ lanes
  pub words : s.words ≡ map code phases
  pub homes : s.homes ≡ map shelf phases
  pub placed : (id : ℕ) (v : Holder) → get_elem? s.views id ≡ some v → place v ≡ id
  pub fits : (id : ℕ) (v : Holder) → get_elem? s.views id ≡ some v → Fits phases (length s.views) v
  -- a claimed slot is with the seat of that runner
  pub claimant : (i r : ℕ) (j : Job) → get_elem? phases i ≡ some (claimed r j) → (v : Running) × (get_elem? s.views r ≡ some (Runner v))
  -- a finished slot has a result that some runner finished
  pub source : (i : ℕ) (d : Finished) → get_elem? phases i ≡ some (finished d) → (r : ℕ) × (v : Running)
      × (get_elem? s.views r ≡ some (Runner v)) × Contains v.finished d
