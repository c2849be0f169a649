-- Bytes that are read and written.
use Rattle.std.proofs.Common.{◌≡◌, ℕ, zero, suc, ◌+◌, ◌-◌, ◌/◌, ◌^◌, ◌<◌, ◌≤◌, refl, ap, arith, length-drop, length-take, length-append}
use Rattle.std.specs.Prelude.{List, [], ◌∷◌, ◌++◌, length, take, drop, All, slice_range}
use Rattle.std.specs.List.{AllByRecursion, splice}
use Rattle.std.proofs.lemmas.List.Elements.{All-take, All-drop, All-append, All-from_recursion, recursion_from_All}
use Rattle.std.proofs.Math.Nat.{pow-suc}
use Rattle.bq_word.specs.Word.{le_bytes, le_number}
use Rattle.bq_sound.specs.Safe.{AreBytes}

-- the number that bytes stand for
number_below : (xs : List ℕ) → AllByRecursion (λ b. b < 256) xs → le_number xs < 256 ^ length xs
number_below [] h = omega arith
number_below (x ∷ xs) h = omega (arith, number_below xs h.1, h.0, pow-suc 256 (length xs))

range_length : (xs : List ℕ) (at size : ℕ) → at + size ≤ length xs → length (slice_range xs at (at + size)) ≡ size
range_length xs at size h = simp (length-take, length-drop) (omega arith)

pub read_below : (len : ℕ) (xs : List ℕ) (at size : ℕ) → AreBytes len xs → at + size ≤ len → le_number (slice_range xs at (at + size)) < 256 ^ size
read_below len xs at size h room =
    let some = slice_range xs at (at + size) in
    let all : All (λ b. b < 256) some = All-take (λ b. b < 256) (at + size - at) (drop at xs) (All-drop (λ b. b < 256) at xs h.each) in
    let count : length some ≡ size = range_length xs at size (omega (arith, h.count)) in
    let bound : le_number some < 256 ^ length some = number_below some (recursion_from_All (λ b. b < 256) some all) in
    let same : 256 ^ length some ≡ 256 ^ size = ap (λ (k : ℕ). 256 ^ k) count in
    omega arith

-- the bytes of a number
pub bytes_length : (k n : ℕ) → length (le_bytes k n) ≡ k
bytes_length zero n = refl
bytes_length (suc k) n = ap suc (bytes_length k (n / 256))

bytes_small : (k n : ℕ) → AllByRecursion (λ b. b < 256) (le_bytes k n)
bytes_small zero n = tt
bytes_small (suc k) n = (omega arith, bytes_small k (n / 256))

-- bytes with some of them written
pub written_bytes : (len : ℕ) (xs : List ℕ) (at size n : ℕ) → AreBytes len xs → at + size ≤ len → AreBytes len (splice xs at (at + size) (le_bytes size n))
written_bytes len xs at size n h room =
    let ys = le_bytes size n in
    let all : All (λ b. b < 256) ys = All-from_recursion (λ b. b < 256) ys (bytes_small size n) in
    record {
      count = simp (length-append, length-take, length-drop, bytes_length) (omega (arith, h.count));
      each = All-append (λ b. b < 256) (take at xs) (ys ++ drop (at + size) xs) (All-take (λ b. b < 256) at xs h.each)
          (All-append (λ b. b < 256) ys (drop (at + size) xs) all (All-drop (λ b. b < 256) (at + size) xs h.each));
    }
