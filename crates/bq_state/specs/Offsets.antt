-- Offsets of pointers from the start of their region.
use Rattle.std.specs.Prelude.{ℕ, ◌-◌, ◌^◌, nat_lt, nat_le, if◌then◌else◌, ℤ, pos, negsuc, ◌≤ℤ◌, ◌+ℤ◌, ◌-ℤ◌, int_le, Bool, ◌&&◌, Option, Some, None}
use Rattle.std.specs.Int.{int_min, int_max}
use Rattle.bq_range.specs.Interval.{Interval}

-- the offsets from lo to hi
pub record Span : Type 0 where
  pub lo : ℤ
  pub hi : ℤ

-- offsets lie within -65,536 to 65,536
abbrev pub is_limited : Span → Bool
is_limited s = int_le (negsuc 65535) s.lo && int_le s.hi (pos 65536)

pub record IsSpan (s : Span) : Type 0 where
  pub low : negsuc 65535 ≤ℤ s.lo
  pub ordered : s.lo ≤ℤ s.hi
  pub high : s.hi ≤ℤ pos 65536

-- the first lies inside the second
pub record SpanWithin (a b : Span) : Type 0 where
  pub low : b.lo ≤ℤ a.lo
  pub high : a.hi ≤ℤ b.hi

-- the offset is one of them
pub record IsOffset (z : ℤ) (s : Span) : Type 0 where
  pub low : s.lo ≤ℤ z
  pub high : z ≤ℤ s.hi

abbrev pub at_offset : ℤ → Span
at_offset z = record { lo = z; hi = z }

-- the least offsets that cover both
abbrev pub join_spans : Span → Span → Span
join_spans a b = record { lo = int_min a.lo b.lo; hi = int_max a.hi b.hi }

-- a range of words read with their sign
abbrev pub signed_of : Interval → Span
signed_of a =
    if nat_lt a.hi (2 ^ 63) then record { lo = pos a.lo; hi = pos a.hi }
    else (if nat_le (2 ^ 63) a.lo then record { lo = pos a.lo -ℤ pos (2 ^ 64); hi = pos a.hi -ℤ pos (2 ^ 64) }
    else record { lo = negsuc (2 ^ 63 - 1); hi = pos (2 ^ 63 - 1) })

abbrev pub limited : Span → Option Span
limited s = if is_limited s then Some s else None

-- a number added to a pointer, and subtracted from it, where the offsets stay within the limit
abbrev pub moved_on : Span → Interval → Option Span
moved_on s a = limited (record { lo = s.lo +ℤ (signed_of a).lo; hi = s.hi +ℤ (signed_of a).hi })

abbrev pub moved_back : Span → Interval → Option Span
moved_back s a = limited (record { lo = s.lo -ℤ (signed_of a).hi; hi = s.hi -ℤ (signed_of a).lo })

-- size bytes at a distance from these offsets lie in a region of so many bytes
abbrev pub fits : Span → ℤ → ℕ → ℕ → Bool
fits s offset size len = int_le (pos 0) (s.lo +ℤ offset) && int_le (s.hi +ℤ offset +ℤ pos size) (pos len)
