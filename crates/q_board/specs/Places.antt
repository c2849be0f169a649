-- Places in a row of jobs.
use Rattle.std.specs.Prelude.{ℕ, zero, suc, ◌+◌, ◌==◌, cond, List, [], ◌∷◌, map, Option, Some, None}
use Rattle.q_session.specs.declared.job.Job.{Job}
use Rattle.q_board.specs.declared.cell.Content.{Content}
use Rattle.q_board.specs.declared.cell.Content.TheVariants.{Vacant}

-- how often k stands in the list
abbrev pub times : ℕ → List ℕ → ℕ
times k [] = 0
times k (x ∷ xs) = cond (x == k) 1 0 + times k xs

-- 1 where there is a job at k, and 1 where there is none
abbrev pub one : Option Job → ℕ
one None = 0
one (Some j) = 1

abbrev pub none : Option Job → ℕ
none None = 1
none (Some j) = 0

abbrev pub has : List (Option Job) → ℕ → ℕ
has [] k = 0
has (x ∷ xs) zero = one x
has (x ∷ xs) (suc k) = has xs k

abbrev pub lacks : List (Option Job) → ℕ → ℕ
lacks [] k = 0
lacks (x ∷ xs) zero = none x
lacks (x ∷ xs) (suc k) = lacks xs k

-- how many jobs there are
abbrev pub jobs : List (Option Job) → ℕ
jobs [] = 0
jobs (x ∷ xs) = one x + jobs xs

-- the slots of a row that a seat has, with nothing in them
abbrev pub bare : ℕ → List ℕ → List (ℕ × Content)
bare from ks = map (λ k. (from + k, Vacant)) ks
