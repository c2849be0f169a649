-- Numbers and the bytes that they are read from.
use Rattle.std.proofs.Common.{◌≡◌, ℕ, zero, suc, ◌+◌, ◌*◌, ◌/◌, ◌%◌, ◌^◌, ◌<◌, ◌≤◌, refl, sym, ap, subst, ◌∙◌, arith}
use Rattle.std.proofs.Common.{All, List, [], ◌∷◌, ◌++◌, length, length-append}
use Rattle.std.proofs.Math.Nat.{div-div-eq-div-mul, pow-succ'}
use Rattle.std.specs.Int.{byte_at, bytes_low_first}
use Rattle.byteorder.specs.Endian.{little_from, little_number}
use Rattle.byteorder.specs.Numbers.{little_from-cons, little_number-reads_back, length-bytes_low_first, little_from-append}
use Rattle.spelling.specs.Numbers.{number_bytes, first_number}

abbrev pub IsBytes : List ℕ → Type 0
IsBytes bytes = All (λ b. b < 256) bytes

pub length-number_bytes : (width n : ℕ) → length (number_bytes width n) ≡ width
unfolding number_bytes
length-number_bytes width n = length-bytes_low_first 0 width n

-- ---- what was written is read

pub first_number-number_bytes : (width n : ℕ) (rest : List ℕ) → n < 256 ^ width → first_number width (number_bytes width n ++ rest) ≡ n
unfolding number_bytes first_number
first_number-number_bytes width n rest fits = little_number-reads_back width n rest fits

-- ---- what was read is written

byte_above : (i x : ℕ) → byte_at (suc i) x ≡ byte_at i (x / 256)
byte_above zero x = refl
byte_above (suc i) x =
    ap (λ (y : ℕ). y % 256) (ap (λ (p : ℕ). x / p) (pow-succ' 256 (suc i)) ∙ sym (div-div-eq-div-mul x 256 (256 ^ suc i)))

bytes_above : (i k x : ℕ) → bytes_low_first (suc i) k x ≡ bytes_low_first i k (x / 256)
bytes_above i zero x = refl
bytes_above i (suc k) x = λ j. byte_above i x j ∷ bytes_above (suc i) k x j

bytes_of_digits : (k b r : ℕ) → b < 256 → bytes_low_first 0 (suc k) (b + 256 * r) ≡ b ∷ bytes_low_first 0 k r
bytes_of_digits k b r small =
    let low : (b + 256 * r) % 256 ≡ b = omega arith in
    let high : (b + 256 * r) / 256 ≡ r = omega arith in
    λ j. low j ∷ (bytes_above 0 k (b + 256 * r) ∙ ap (bytes_low_first 0 k) high) j

read_bytes : (xs : List ℕ) → IsBytes xs → bytes_low_first 0 (length xs) (little_from 0 (length xs) xs) ≡ xs
read_bytes [] fits = refl
read_bytes (b ∷ xs) fits =
    ap (λ (r : ℕ). bytes_low_first 0 (suc (length xs)) (b + 256 * r)) (little_from-cons 0 (length xs) b xs)
    ∙ bytes_of_digits (length xs) b (little_from 0 (length xs) xs) (fits 0 0 (omega arith))
    ∙ ap (λ (l : List ℕ). b ∷ l) (read_bytes xs (λ i d h. fits (suc i) d (omega arith)))

number_bytes-first_number : (width : ℕ) (front : List ℕ) → length front ≡ width → IsBytes front
    → number_bytes width (first_number width front) ≡ front
unfolding number_bytes first_number
number_bytes-first_number width front len fits =
    let P : ℕ → Type 0 = λ w. bytes_low_first 0 w (little_from 0 w front) ≡ front in
    subst P len (read_bytes front fits)

-- a number that was read from the bytes in front
pub number_parts : (width n : ℕ) (old front rest : List ℕ) → length front ≡ width → IsBytes front → old ≡ front ++ rest
    → n ≡ little_number width front → old ≡ number_bytes width n ++ rest
unfolding first_number
number_parts width n old front rest len fits parts is =
    parts ∙ ap (λ (l : List ℕ). l ++ rest) (sym (ap (number_bytes width) is ∙ number_bytes-first_number width front len fits))

-- and it is the first one
pub number_first : (width n : ℕ) (old front rest : List ℕ) → length front ≡ width → old ≡ front ++ rest → n ≡ little_number width front
    → first_number width old ≡ n
unfolding first_number
number_first width n old front rest len parts is = ap (λ (l : List ℕ). little_from 0 width l) parts ∙ little_from-append width front rest (omega arith) ∙ sym is

-- a number that stands in front is the first, and the bytes are long enough for it
pub number_leads : (width n : ℕ) (bytes rest : List ℕ) → n < 256 ^ width → bytes ≡ number_bytes width n ++ rest
    → (first_number width bytes ≡ n) × (width ≤ length bytes)
number_leads width n bytes rest fits parts = (
  ap (first_number width) parts ∙ first_number-number_bytes width n rest fits,
  omega (arith, ap length parts, length-append (number_bytes width n) rest, length-number_bytes width n),
)
