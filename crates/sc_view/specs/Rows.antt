-- Rows of chunks: entries in rising id order, within each chunk and across them.
use Rattle.std.specs.Prelude.{◌≡◌, ℕ, suc, ◌≤◌, ◌<◌, nat_lt, slice_set, slice_index_or, Bool, true, false, cond, length, map, List, [], ◌∷◌, is_some}
use Rattle.std.specs.List.{AllByRecursion}
use Rattle.std.specs.Ordering.{nat_cmp}
use Rattle.std.specs.FinMap.Entries.{find, put}
use Rattle.std.specs.FinMap as fin
use Rattle.sc_view.specs.declared.view.Stored.{Stored}
use Rattle.sc_view.specs.Views.{IsView, is_newer}
pub use Rattle.sc_view.specs.Views.{joined, HasAtLeast}
pub use Rattle.sc_chunk.specs.Entries.{before, without_first, from, Learns, is_larger, Over, Under, Rises}

-- whether there are entries, all of larger ids
abbrev pub starts_above : ℕ → List (ℕ × Stored) → Bool
starts_above id [] = false
starts_above id (e ∷ es) = nat_lt id e.0

-- how many of the entries have an id that isn't known
abbrev pub count_lacking : List (ℕ × Stored) → List (ℕ × Stored) → ℕ
count_lacking known [] = 0
count_lacking known (e ∷ es) = cond (is_some (find nat_cmp e.0 known)) (count_lacking known es) (suc (count_lacking known es))

-- how many of the entries are newer than what is known
abbrev pub count_newer : List (ℕ × Stored) → List (ℕ × Stored) → ℕ
count_newer known [] = 0
count_newer known (e ∷ es) = cond (is_newer (find nat_cmp e.0 known) e.1) (suc (count_newer known es)) (count_newer known es)

-- the same of the chunk at a place of a row
abbrev pub LearnsAt : ℕ → ℕ → Stored → List (List (ℕ × Stored)) → List (List (ℕ × Stored)) → Bool → Type 0
LearnsAt at id x old new true = (new ≡ slice_set old at (put nat_cmp id x (slice_index_or old at []))) × (length (put nat_cmp id x (slice_index_or old at [])) ≤ 32)
LearnsAt at id x old new false = new ≡ old

abbrev pub HasAtMost : ℕ → List (List (ℕ × Stored)) → Type 0
HasAtMost n cs = AllByRecursion (λ c. length c ≤ n) cs

-- a row of chunks of at most 32 entries, and where there are several of at least 16; up to 32 entries are in one chunk,
-- and the 33rd splits it
pub record IsRow (cs : List (List (ℕ × Stored))) : Type 0 where
  pub some : 1 ≤ length cs
  pub most : HasAtMost 32 cs
  pub least : 1 < length cs → HasAtLeast 16 cs
  pub single : length (joined cs) ≤ 32 → length cs ≡ 1
  pub split : length (joined cs) ≡ 33 → map (λ c. length c) cs ≡ 16 ∷ 17 ∷ []
  pub rises : Rises (joined cs)

-- what each view keeps
pub record IsHeld (cs : List (List (ℕ × Stored))) (count : ℕ) : Type 0 where
  pub row : IsRow cs
  pub counted : count ≡ length (joined cs)
  pub valid : IsView (fin.from_entries (joined cs))
