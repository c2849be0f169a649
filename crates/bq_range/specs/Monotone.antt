-- Smaller ranges in, smaller ranges out.
use Rattle.std.specs.Prelude.{⊤, Bool, Option, Some, None}
use Rattle.bq_word.specs.Word.{bits_of, sign_bits, swap_bits}
use Rattle.bq_word.specs.declared.Width.{Width}
use Rattle.bq_word.specs.declared.SignBits.{SignBits}
use Rattle.bq_word.specs.declared.SwapBits.{SwapBits}
use Rattle.bq_word.specs.declared.AluOp.{AluOp}
use Rattle.bq_word.specs.declared.Relation.{Relation}
use Rattle.bq_range.specs.Interval.{Interval, IsInterval, Within, join}
use Rattle.bq_range.specs.Table.{operated, negated, sign_extended, low_range, swapped_range}
use Rattle.bq_range.specs.Narrow.{branched}

-- the first is a range of words and lies inside the second
pub record IsPart (a c : Interval) : Type 0 where
  pub words : IsInterval a
  pub within : Within a c

-- what one edge leaves of its two operands is part of what another leaves; where the other can't be gone, nor can it
abbrev pub LeavesLess : Option (Interval × Interval) → Option (Interval × Interval) → Type 0
LeavesLess None o = ⊤
LeavesLess (Some p) None = ⊥
LeavesLess (Some p) (Some q) = IsPart p.0 q.0 × IsPart p.1 q.1

-- each row of the tables makes of parts of its operands a part of what it makes of the operands, and a branch leaves
-- part of its operands on either edge
pub record RowsAreMonotone : Type 0 where
  pub operations : (w : Width) (op : AluOp) (a b c d : Interval) → IsPart a c → IsPart b d → IsPart (operated (bits_of w) op a b) (operated (bits_of w) op c d)
  pub negations : (w : Width) (a c : Interval) → IsPart a c → IsPart (negated (bits_of w) a) (negated (bits_of w) c)
  pub extensions : (from : SignBits) (to : Width) (a c : Interval) → IsPart a c → IsPart (sign_extended (sign_bits from) (bits_of to) a) (sign_extended (sign_bits from) (bits_of to) c)
  pub low_bits : (bits : SwapBits) (a c : Interval) → IsPart a c → IsPart (low_range (swap_bits bits) a) (low_range (swap_bits bits) c)
  pub swaps : (bits : SwapBits) (a c : Interval) → IsPart a c → IsPart (swapped_range (swap_bits bits) a) (swapped_range (swap_bits bits) c)
  pub branches : (w : Width) (r : Relation) (taken : Bool) (a b c d : Interval) → IsPart a c → IsPart b d → LeavesLess (branched (bits_of w) r taken a b) (branched (bits_of w) r taken c d)
  pub narrows : (w : Width) (r : Relation) (taken : Bool) (a b : Interval) → IsInterval a → IsInterval b → LeavesLess (branched (bits_of w) r taken a b) (Some (a, b))
  pub joins : (a b c d : Interval) → IsPart a c → IsPart b d → IsPart (join a b) (join c d)
