-- The words of slots.
use Rattle.std.specs.Prelude.{ℕ, ◌+◌, ◌-◌, ◌==◌, cond}
use Rattle.q_board.specs.declared.found.Found.{Found}
use Rattle.q_board.specs.declared.found.Found.TheVariants.{Empty, Ready, Finished, Claimed}

-- the word that shows a state
abbrev pub word_of : Found → ℕ
word_of Empty = 0
word_of Ready = 1
word_of Finished = 2
word_of (Claimed runner) = 3 + runner

-- the state that a word shows
abbrev pub found_of : ℕ → Found
found_of n = cond (n == 0) Empty (cond (n == 1) Ready (cond (n == 2) Finished (Claimed (n - 3))))
