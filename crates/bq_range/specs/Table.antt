-- The range that an operation leaves, one row for each operation: the first line of a row that fits.
-- Unless a line says otherwise, operands are ranges of numbers of w bits.
use Rattle.std.specs.Prelude.{◌≡◌, ◌≤◌, ℕ, ◌+◌, ◌-◌, ◌*◌, ◌/◌, ◌%◌, ◌^◌, nat_lt, nat_le, min, max, if◌then◌else◌, ◌&&◌, ◌||◌}
use Rattle.std.specs.Int.Count.{count_leading_zeros}
use Rattle.bq_word.specs.Word.{operation, low, swapped, extended}
use Rattle.bq_word.specs.declared.AluOp.{AluOp}
use Rattle.bq_word.specs.declared.AluOp.TheVariants.{Add, Sub, Mul, Div, Or, And, ShiftLeft, ShiftRight, Mod, Xor, Mov, ArithmeticShiftRight}
use Rattle.bq_range.specs.Interval.{Interval, between, single, is_single, top, whole, cut}

abbrev pub sums : ℕ → Interval → Interval → Interval
sums w a b =
    if nat_le (a.hi + b.hi) (top w) then between (a.lo + b.lo) (a.hi + b.hi)
    else (if nat_lt (top w) (a.lo + b.lo) then between (a.lo + b.lo - 2 ^ w) (a.hi + b.hi - 2 ^ w)
    else whole w)

abbrev pub differences : ℕ → Interval → Interval → Interval
differences w a b =
    if nat_le b.hi a.lo then between (a.lo - b.hi) (a.hi - b.lo)
    else (if nat_lt a.hi b.lo then between (2 ^ w + a.lo - b.hi) (2 ^ w + a.hi - b.lo)
    else whole w)

abbrev pub products : ℕ → Interval → Interval → Interval
products w a b = if nat_le (a.hi * b.hi) (top w) then between (a.lo * b.lo) (a.hi * b.hi) else whole w

abbrev pub quotients : Interval → Interval → Interval
quotients a b = if nat_le 1 b.lo then between (a.lo / b.hi) (a.hi / b.lo) else between 0 a.hi

abbrev pub remainders : Interval → Interval → Interval
remainders a b =
    if nat_le 1 b.lo then (if nat_lt a.hi b.lo then a else between 0 (min a.hi (b.hi - 1)))
    else between 0 a.hi

-- the least 2 ^ k - 1 that is at least the word x (the law `ones_is_least`)
unfoldable pub ones : ℕ → ℕ
ones x = 2 ^ (64 - count_leading_zeros 64 x) - 1

-- n is the least 2 ^ k - 1 that is at least x
pub record IsLeastOnes (x n : ℕ) : Type 0 where
  pub power : (k : ℕ) × (n ≡ 2 ^ k - 1)
  pub above : x ≤ n
  pub least : (k : ℕ) → x ≤ 2 ^ k - 1 → n ≤ 2 ^ k - 1

abbrev pub conjunctions : Interval → Interval → Interval
conjunctions a b = between 0 (min a.hi b.hi)

abbrev pub disjunctions : Interval → Interval → Interval
disjunctions a b = between (max a.lo b.lo) (ones (max a.hi b.hi))

abbrev pub exclusive_disjunctions : Interval → Interval → Interval
exclusive_disjunctions a b = between 0 (ones (max a.hi b.hi))

-- a times 2 ^ n
abbrev pub shifted_left : ℕ → Interval → ℕ → Interval
shifted_left w a n = if nat_le (a.hi * 2 ^ n) (top w) then between (a.lo * 2 ^ n) (a.hi * 2 ^ n) else whole w

abbrev pub left_shifts : ℕ → Interval → Interval → Interval
left_shifts w a b = if is_single b then shifted_left w a (b.lo % w) else whole w

abbrev pub right_shifts : ℕ → Interval → Interval → Interval
right_shifts w a b = if is_single b then between (a.lo / 2 ^ (b.lo % w)) (a.hi / 2 ^ (b.lo % w)) else between 0 a.hi

abbrev pub arithmetic_right_shifts : ℕ → Interval → Interval → Interval
arithmetic_right_shifts w a b =
    if is_single b then (if nat_lt a.hi (2 ^ (w - 1)) || nat_le (2 ^ (w - 1)) a.lo then between (operation w ArithmeticShiftRight a.lo b.lo) (operation w ArithmeticShiftRight a.hi b.lo) else whole w)
    else (if nat_lt a.hi (2 ^ (w - 1)) then between 0 a.hi else whole w)

-- the row of an operation; of one that has none, as the signed quotient and remainder, any number of w bits
abbrev pub row : ℕ → AluOp → Interval → Interval → Interval
row w Add a b = sums w a b
row w Sub a b = differences w a b
row w Mul a b = products w a b
row w Div a b = quotients a b
row w Or a b = disjunctions a b
row w And a b = conjunctions a b
row w ShiftLeft a b = left_shifts w a b
row w ShiftRight a b = right_shifts w a b
row w Mod a b = remainders a b
row w Xor a b = exclusive_disjunctions a b
row w Mov a b = b
row w ArithmeticShiftRight a b = arithmetic_right_shifts w a b
row w _ a b = whole w

-- of two words the exact result; else the row of the operands cut to w bits
abbrev pub operated : ℕ → AluOp → Interval → Interval → Interval
operated w op a b =
    if is_single a && is_single b then single (operation w op a.lo b.lo) else row w op (cut w a) (cut w b)

-- ---- one operand

abbrev pub negatives : ℕ → Interval → Interval
negatives w a = if nat_le 1 a.lo then between (2 ^ w - a.hi) (2 ^ w - a.lo) else whole w

abbrev pub negated : ℕ → Interval → Interval
negated w a = if is_single a then single (operation w Sub 0 a.lo) else negatives w (cut w a)

-- the low n bits read with their sign, where no sign is set
abbrev pub extensions : ℕ → ℕ → Interval → Interval
extensions n w a = if nat_lt a.hi (2 ^ (n - 1)) then a else whole w

abbrev pub sign_extended : ℕ → ℕ → Interval → Interval
sign_extended n w a = if is_single a then single (extended n w a.lo) else extensions n w (cut w a)

-- the low n bits of words
abbrev pub low_range : ℕ → Interval → Interval
low_range n a = if is_single a then single (low n a.lo) else (if nat_lt a.hi (2 ^ n) then a else whole n)

-- the low n bits of words with their bytes in the opposite order
abbrev pub swapped_range : ℕ → Interval → Interval
swapped_range n a = if is_single a then single (swapped n a.lo) else whole n
