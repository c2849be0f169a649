-- A test that computes, and what it says: each number is below the next.
use Rattle.std.proofs.Common.{arith, rules, ◌≡◌, ℕ, suc, zero, Bool, true, ◌&&◌, nat_lt, List, [], ◌∷◌}
use native.Mathlib.Numerals.{unary_clauses}
use Rattle.std.proofs.lemmas.Grind.{common_steps}
use Rattle.std.specs.List.Sorted.{IsStrictlyIncreasing}

abbrev pub rises : List ℕ → Bool
rises [] = true
rises (x ∷ []) = true
rises (x ∷ y ∷ xs) = nat_lt x y && rises (y ∷ xs)

pub rising : (xs : List ℕ) → rises xs ≡ true → IsStrictlyIncreasing xs
rising [] h k below = omega arith
rising (x ∷ []) h k below = omega arith
rising (x ∷ y ∷ xs) h zero below = grind (arith, common_steps)
rising (x ∷ y ∷ xs) h (suc k) below =
    let rest : rises (y ∷ xs) ≡ true = search (rules, h) in
    let behind = rising (y ∷ xs) rest k (omega arith) in
    simp unary_clauses (simp unary_clauses at behind)
