-- The lowest bytes of a word are the first of its eight.
use Rattle.std.proofs.Common.{◌≡◌, ◌∙◌, ℕ, zero, suc, ◌/◌, ◌%◌, ◌≤◌, List, ◌∷◌, take, ap, refl, arith, rules}
use Rattle.std.specs.Int.{w64, to_le_bytes}
use Rattle.bq_word.specs.Word.{le_bytes}

first_bytes : (k m n : ℕ) → k ≤ m → take k (le_bytes m n) ≡ le_bytes k n
first_bytes zero m n few = refl
first_bytes (suc k) zero n few = absurd (omega arith)
first_bytes (suc k) (suc m) n few = ap (λ (bs : List ℕ). n % 256 ∷ bs) (first_bytes k m (n / 256) (omega arith))

pub eight_bytes : (n : ℕ) → to_le_bytes w64 n ≡ le_bytes 8 n
eight_bytes n = search rules

pub lowest_bytes : (k n : ℕ) (bytes : List ℕ) → k ≤ 8 → bytes ≡ to_le_bytes w64 n → take k bytes ≡ le_bytes k n
lowest_bytes k n bytes few is = ap (take k) (is ∙ eight_bytes n) ∙ first_bytes k 8 n few
