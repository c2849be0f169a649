-- What a list is into which the lowest bytes of a word were put.
use Rattle.std.proofs.Common.{◌≡◌, ◌∙◌, ℕ, ◌+◌, ◌≤◌, List, length, take, ap, refl, arith}
use Rattle.std.specs.Int.{w64, to_le_bytes}
use Rattle.std.specs.List.{splice}
use Rattle.std.proofs.lemmas.List.{length-take-le}
use Rattle.bq_word.specs.Word.{le_bytes}
use Rattle.bq_word.proofs.Bytes.{lowest_bytes}

-- a word of which the first n bytes are put
pub lowest_put : (held new word : List ℕ) (at n v : ℕ) → n ≤ 8 → new ≡ splice held at (at + length (take n word)) (take n word) → word ≡ to_le_bytes w64 v
    → new ≡ splice held at (at + n) (le_bytes n v)
lowest_put held new word at n v few put is =
    put ∙ rw (length-take-le n word (omega (arith, few, ap length is)), lowest_bytes n v word few is) refl
