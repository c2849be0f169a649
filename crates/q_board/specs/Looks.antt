-- What a seat's looks showed.
use Rattle.std.specs.Prelude.{ℕ, ◌+◌, List, [], ◌∷◌, map}
use Rattle.q_board.specs.declared.found.Look.{Look}
use Rattle.q_board.specs.declared.found.Found.{Found}
use Rattle.q_board.specs.declared.found.Found.TheVariants.{Empty, Ready, Finished, Claimed}

abbrev pub slots_of : List Look → List ℕ
slots_of looks = map (λ l. l.slot) looks

-- 1 for a ready job, else 0
abbrev pub is_ready : Found → ℕ
is_ready Empty = 0
is_ready Ready = 1
is_ready Finished = 0
is_ready (Claimed r) = 0

-- 1 for a finished job, else 0
abbrev pub is_finished : Found → ℕ
is_finished Empty = 0
is_finished Ready = 0
is_finished Finished = 1
is_finished (Claimed r) = 0

-- how many looks showed what this counts
abbrev pub showing : (Found → ℕ) → List Look → ℕ
showing is [] = 0
showing is (x ∷ xs) = is x.found + showing is xs
