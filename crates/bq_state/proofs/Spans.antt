-- Offsets computed in wider numbers.
use Rattle.std.proofs.Common.{◌≡◌, ℕ, pos, ℤ, ◌+ℤ◌, ◌-ℤ◌, Option, true, false, refl, ap, to_z, of_z}
use Rattle.std.specs.Prelude.{int_le}
use mir.Syntax.{Width}
use Rattle.bq_range.specs.Interval.{Interval}
use Rattle.bq_state.specs.Offsets.{Span, limited, signed_of, moved_on, moved_back, fits}

-- a signed number in a register of a width
abbrev pub kept : Width → ℤ → ℤ
kept w z = to_z w (of_z w z)

pub same_ends : {s t : Span} → s ≡ t → (s.lo ≡ t.lo) × (s.hi ≡ t.hi)
same_ends e = (ap (λ (x : Span). x.lo) e, ap (λ (x : Span). x.hi) e)

pub moved_on_is : (s : Span) (by : Interval) (r : Option Span) (a b : ℤ) → r ≡ limited (record { lo = a; hi = b }) → a ≡ s.lo +ℤ (signed_of by).lo
    → b ≡ s.hi +ℤ (signed_of by).hi → r ≡ moved_on s by
moved_on_is s by r a b h e f = rw (← e, ← f) h

pub moved_back_is : (s : Span) (by : Interval) (r : Option Span) (a b : ℤ) → r ≡ limited (record { lo = a; hi = b }) → a ≡ s.lo -ℤ (signed_of by).hi
    → b ≡ s.hi -ℤ (signed_of by).lo → r ≡ moved_back s by
moved_back_is s by r a b h e f = rw (← e, ← f) h

pub fits_above : (s : Span) (offset : ℤ) (size len : ℕ) (a x top : ℤ) → int_le (pos 0) a ≡ true → a ≡ s.lo +ℤ offset → x ≡ s.hi +ℤ offset +ℤ pos size
    → top ≡ pos len → int_le x top ≡ fits s offset size len
fits_above s offset size len a x top h e f g = rw (← e, h, ← f, ← g) refl

pub fits_below : (s : Span) (offset : ℤ) (size len : ℕ) (a : ℤ) → int_le (pos 0) a ≡ false → a ≡ s.lo +ℤ offset → int_le (pos 0) a ≡ fits s offset size len
fits_below s offset size len a h e = rw (← e, h) refl
