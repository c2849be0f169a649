-- What a branch leaves of the ranges of its two operands, on either edge.
use Rattle.std.specs.Prelude.{ℕ, ◌+◌, ◌-◌, ◌^◌, nat_lt, nat_le, min, max, if◌then◌else◌, ◌&&◌, Bool, true, false, not, Option, Some, None}
use Rattle.std.specs.Option.{option_and_then, MatchOption}
use Rattle.bq_word.specs.Word.{relates}
use Rattle.bq_word.specs.declared.Relation.{Relation}
use Rattle.bq_word.specs.declared.Relation.TheVariants.{Equal, Greater, GreaterOrEqual, CommonBit, NotEqual, SignedGreater, SignedGreaterOrEqual, Less, LessOrEqual, SignedLess, SignedLessOrEqual}
use Rattle.bq_range.specs.Interval.{Interval, IsIn, between, is_single, join, meet}

-- the words of a below t, where there is one
abbrev pub below : ℕ → Interval → Option Interval
below t a = if nat_lt a.lo t then Some (between a.lo (min a.hi (t - 1))) else None

-- the words of a from t on, where there is one
abbrev pub from : ℕ → Interval → Option Interval
from t a = if nat_le t a.hi then Some (between (max a.lo t) a.hi) else None

-- the least range that covers what there is of two
abbrev pub hull : Option Interval → Option Interval → Option Interval
hull None s = s
hull (Some r) None = Some r
hull (Some r) (Some s) = Some (join r s)

-- ---- An order of words that begins at h and, after the greatest word, goes on with the words below h.
-- With h = 0 words are in their own order, with h = 2 ^ (w - 1) in that of signed numbers of w bits.

abbrev pub first : ℕ → Interval → ℕ
first h a = if nat_lt a.lo h && nat_le h a.hi then h else a.lo

abbrev pub last : ℕ → Interval → ℕ
last h a = if nat_lt a.lo h && nat_le h a.hi then h - 1 else a.hi

-- the least range of the words of a that come before t (d = 0), or no later (d = 1)
abbrev pub ahead : ℕ → ℕ → ℕ → Interval → Option Interval
ahead h d t a =
    if nat_lt t h then hull (option_and_then (below (t + d)) (below h a)) (from h a)
    else option_and_then (below (t + d)) (from h a)

-- the least range of the words of a that come after t (d = 1), or no earlier (d = 0)
abbrev pub behind : ℕ → ℕ → ℕ → Interval → Option Interval
behind h d t a =
    if nat_lt t h then option_and_then (from (t + d)) (below h a)
    else hull (below h a) (option_and_then (from (t + d)) (from h a))

-- ---- One operand

-- the number of w bits from which a sign is set
abbrev pub sign : ℕ → ℕ
sign w = 2 ^ (w - 1)

-- the least range of the words of a that stand in a relation to some word of b
abbrev pub narrowed_to : ℕ → Relation → Interval → Interval → Option Interval
narrowed_to w Equal a b = meet a b
narrowed_to w NotEqual a b = if is_single b then hull (below b.lo a) (from (b.lo + 1) a) else Some a
narrowed_to w Less a b = ahead 0 0 (last 0 b) a
narrowed_to w LessOrEqual a b = ahead 0 1 (last 0 b) a
narrowed_to w Greater a b = behind 0 1 (first 0 b) a
narrowed_to w GreaterOrEqual a b = behind 0 0 (first 0 b) a
narrowed_to w SignedLess a b = ahead (sign w) 0 (last (sign w) b) a
narrowed_to w SignedLessOrEqual a b = ahead (sign w) 1 (last (sign w) b) a
narrowed_to w SignedGreater a b = behind (sign w) 1 (first (sign w) b) a
narrowed_to w SignedGreaterOrEqual a b = behind (sign w) 0 (first (sign w) b) a
narrowed_to w CommonBit a b = Some a

-- the relation that holds where this one does not
abbrev pub opposite : Relation → Option Relation
opposite Equal = Some NotEqual
opposite NotEqual = Some Equal
opposite Less = Some GreaterOrEqual
opposite LessOrEqual = Some Greater
opposite Greater = Some LessOrEqual
opposite GreaterOrEqual = Some Less
opposite SignedLess = Some SignedGreaterOrEqual
opposite SignedLessOrEqual = Some SignedGreater
opposite SignedGreater = Some SignedLessOrEqual
opposite SignedGreaterOrEqual = Some SignedLess
opposite CommonBit = None

-- the same relation, asked from the other side
abbrev pub converse : Relation → Relation
converse Equal = Equal
converse NotEqual = NotEqual
converse Less = Greater
converse LessOrEqual = GreaterOrEqual
converse Greater = Less
converse GreaterOrEqual = LessOrEqual
converse SignedLess = SignedGreater
converse SignedLessOrEqual = SignedGreaterOrEqual
converse SignedGreater = SignedLess
converse SignedGreaterOrEqual = SignedLessOrEqual
converse CommonBit = CommonBit

-- ---- Both operands

-- the ranges of both operands where a relation holds; none where it holds of no two words
abbrev pub narrowed_by : ℕ → Relation → Interval → Interval → Option (Interval × Interval)
narrowed_by w relation a b =
    option_and_then (λ (l : Interval). option_and_then (λ (r : Interval). Some (l, r)) (narrowed_to w (converse relation) b a)) (narrowed_to w relation a b)

abbrev pub is_same : Bool → Bool → Bool
is_same true b = b
is_same false b = not b

-- two single words decide an edge on common bits, else it may be taken
abbrev pub by_common_bit : ℕ → Bool → Interval → Interval → Option (Interval × Interval)
by_common_bit w taken a b =
    if is_single a && is_single b && not (is_same taken (relates w CommonBit a.lo b.lo)) then None else Some (a, b)

-- on an edge of a branch on a relation that has this opposite; common bits have none
abbrev pub by_opposite : ℕ → Relation → Option Relation → Bool → Interval → Interval → Option (Interval × Interval)
by_opposite w relation None taken a b = by_common_bit w taken a b
by_opposite w relation (Some other) taken a b = narrowed_by w (if taken then relation else other) a b

-- the ranges that an edge leaves, where it can be gone; ranges that go beyond w bits stay as they are
abbrev pub branched : ℕ → Relation → Bool → Interval → Interval → Option (Interval × Interval)
branched w relation taken a b = if nat_lt a.hi (2 ^ w) && nat_lt b.hi (2 ^ w) then by_opposite w relation (opposite relation) taken a b else Some (a, b)

-- ---- What that is, without the table. S says which words stand so.

-- the words of a that stand so to some word of b, and the words of b to which some word of a stands so
abbrev pub IsLeft : (ℕ → ℕ → Type 0) → Interval → Interval → ℕ → Type 0
IsLeft S a b x = IsIn x a × ((y : ℕ) × IsIn y b × S x y)

abbrev pub IsRight : (ℕ → ℕ → Type 0) → Interval → Interval → ℕ → Type 0
IsRight S a b y = IsIn y b × ((x : ℕ) × IsIn x a × S x y)

-- r is the least range that holds the words of P
pub record IsLeastRange (P : ℕ → Type 0) (r : Interval) : Type 0 where
  pub lo : P r.lo
  pub hi : P r.hi
  pub each : (x : ℕ) → P x → IsIn x r

-- no two words stand so, or each operand has the least range of those that do
abbrev pub IsNarrowing : (ℕ → ℕ → Type 0) → Interval → Interval → Option (Interval × Interval) → Type 0
IsNarrowing S a b o =
    MatchOption o ((x y : ℕ) → IsIn x a → IsIn y b → S x y → ⊥)
    (λ p. IsLeastRange (IsLeft S a b) p.0 × IsLeastRange (IsRight S a b) p.1)
