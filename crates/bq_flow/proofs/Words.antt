-- A jump's destination, and the machine's arithmetic modulo 2^64.
use Rattle.std.proofs.Common.{◌≡◌, ℕ, ◌+◌, ◌^◌, ◌<◌, arith}
use Rattle.std.specs.Prelude.{ℤ, pos, negsuc}
use Rattle.std.proofs.lemmas.Int.{ints}
use Rattle.bq_word.specs.Word.{low, modulo}
use Rattle.bq_flow.specs.Successors.{destination}

pub in_words : (unit next : ℕ) (distance : ℤ) → unit < 2 ^ 64 → next < 2 ^ 64 → destination unit distance ≡ pos next
    → low 64 (unit + 1 + modulo 64 distance) ≡ next
in_words unit next (pos n) within fits e = omega (arith, ints, e, fits)
in_words unit next (negsuc n) within fits e = omega (arith, ints, e, fits, within)
