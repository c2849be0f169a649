-- How many looks showed a ready or a finished job.
use Rattle.std.proofs.Common.{◌≡◌, ℕ, ◌+◌, List, [], ◌∷◌, ◌++◌, arith}
use Rattle.q_board.specs.declared.found.Look.{Look}
use Rattle.q_board.specs.declared.found.Found.{Found}
use Rattle.q_board.specs.Looks.{showing}

pub showing-append : (is : Found → ℕ) (xs ys : List Look) → showing is (xs ++ ys) ≡ showing is xs + showing is ys
showing-append is [] ys = omega arith
showing-append is (x ∷ xs) ys = omega (arith, showing-append is xs ys)
