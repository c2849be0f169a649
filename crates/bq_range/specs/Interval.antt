-- Ranges of words, each by its least and its greatest word.
use Rattle.std.specs.Prelude.{ℕ, ◌≤◌, ◌<◌, ◌^◌, ◌-◌, ◌/◌, ◌==◌, nat_le, min, max, if◌then◌else◌, Bool, Option, Some, None}
use Rattle.bq_word.specs.Word.{low}

pub record Interval : Type 0 where
  pub lo : ℕ
  pub hi : ℕ

-- the least is not above the greatest, and both are words
pub record IsInterval (a : Interval) : Type 0 where
  pub ordered : a.lo ≤ a.hi
  pub words : a.hi < 2 ^ 64

-- x is one of the numbers from lo to hi
pub record IsIn (x : ℕ) (a : Interval) : Type 0 where
  pub low : a.lo ≤ x
  pub high : x ≤ a.hi

-- the first lies inside the second
pub record Within (a b : Interval) : Type 0 where
  pub low : b.lo ≤ a.lo
  pub high : a.hi ≤ b.hi

abbrev pub between : ℕ → ℕ → Interval
between lo hi = record { lo = lo; hi = hi }

abbrev pub single : ℕ → Interval
single x = between x x

abbrev pub is_single : Interval → Bool
is_single a = a.lo == a.hi

-- the greatest number of w bits
abbrev pub top : ℕ → ℕ
top w = 2 ^ w - 1

-- every number of w bits
abbrev pub whole : ℕ → Interval
whole w = between 0 (top w)

abbrev pub all_words : Interval
all_words = whole 64

-- the least range that covers both
abbrev pub join : Interval → Interval → Interval
join a b = between (min a.lo b.lo) (max a.hi b.hi)

-- the numbers that both hold, where there is one
abbrev pub meet : Interval → Interval → Option Interval
meet a b = if nat_le (max a.lo b.lo) (min a.hi b.hi) then Some (between (max a.lo b.lo) (min a.hi b.hi)) else None

-- the range of the low w bits: the ends' low bits where no number between them has other high bits
abbrev pub cut : ℕ → Interval → Interval
cut w a = if a.lo / 2 ^ w == a.hi / 2 ^ w then between (low w a.lo) (low w a.hi) else whole w
