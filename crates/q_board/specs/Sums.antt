-- The jobs of an asker, counted by any weight.
use Rattle.std.specs.Prelude.{◌≡◌, ℕ, zero, suc, ◌+◌, ◌*◌, Option}
use mathlib.Core.Option as opt
use mathlib.Core.Option.{some, none}
use lib.ListN.{get_elem?}
use Rattle.atomic_table.specs.Table.{State}
use Rattle.q_session.specs.declared.job.Job.{Job}
use Rattle.q_board.specs.declared.cell.Content.{Content}
use Rattle.q_board.specs.declared.cell.Content.TheVariants as cell
use Rattle.q_board.specs.declared.view.Asking.{Asking}
use Rattle.q_board.specs.declared.view.Holder.{Holder}
use Rattle.q_board.specs.declared.view.Holder.TheVariants.{Maker, Asker, Runner}
use Rattle.q_board.specs.Rule.{total, weight}

-- a job that waits in the slot, or a job that lies there with its result
abbrev pub cell_weight : (Job → ℕ) → Content → ℕ
cell_weight h cell.Vacant = 0
cell_weight h (cell.Offered j) = h j
cell_weight h (cell.Finished d) = h d.job

abbrev pub home_weight : (Job → ℕ) → opt.Option (opt.Option Content) → ℕ
home_weight h none = 0
home_weight h (some none) = 0
home_weight h (some (some c)) = cell_weight h c

abbrev pub claim_weight : (Job → ℕ) → opt.Option (Option Job) → ℕ
claim_weight h none = 0
claim_weight h (some x) = weight h x

-- the job of the slot i that a seat's holder has claimed
abbrev pub claimed_by : (Job → ℕ) → ℕ → Holder → ℕ
claimed_by h i (Maker m) = 0
claimed_by h i (Asker a) = 0
claimed_by h i (Runner r) = claim_weight h (get_elem? r.held i)

abbrev pub in_slot : (Job → ℕ) → State Content Holder → ℕ → ℕ
in_slot h s i = home_weight h (get_elem? s.homes i)

-- the claims of all runners on the slot i
abbrev pub with_runners : (Job → ℕ) → State Content Holder → ℕ → ℕ
with_runners h s i = total (claimed_by h i) s.views

-- over so many slots from i on
abbrev pub over : (ℕ → ℕ) → ℕ → ℕ → ℕ
over f i zero = 0
over f i (suc n) = f i + over f (i + 1) n

-- as multisets: what the asker offered is what it received, what lies in its slots and what runners hold of them
abbrev pub Adds : State Content Holder → Asking → Type 0
Adds s a =
    (h : Job → ℕ) → total h a.offered ≡ total (λ d. h d.job) a.received + over (in_slot h s) (8 * a.number) 8 + over (with_runners h s) (8 * a.number) 8
