-- The ranges that the tables give hold what the operations leave of the numbers in their operands,
-- and the edges of a branch what leads there.
use Rattle.std.proofs.Common.{◌≡◌, ℕ, ◌+◌, ◌-◌, ◌*◌, ◌/◌, ◌%◌, ◌^◌, ◌<◌, ◌≤◌, Bool, cond, eqb, ltb, Some, arith, ap, subst, ◌&&◌}
use Rattle.std.specs.Option.{IsSomeAnd}
use Rattle.std.proofs.lemmas.Bool.{cond_both, and_parts, eqb-true, ltb-true}
use Rattle.std.proofs.lemmas.Int.{ints}
use Rattle.std.proofs.lemmas.Nat.{pow_pos, mod_below}
use Rattle.std.proofs.Math.Nat.{mod-eq_of_lt, div-add-mod}
use Rattle.std.proofs.Math.Pow.{shr_mono}
use Rattle.bq_word.specs.Word.{operation, low, extended, swapped, bits_of, swap_bits, sign_bits, relates}
use Rattle.bq_word.specs.declared.Width.{Width}
use Rattle.bq_word.specs.declared.Width.TheVariants.{W32, W64}
use Rattle.bq_word.specs.declared.AluOp.{AluOp}
use Rattle.bq_word.specs.declared.AluOp.TheVariants.{Sub}
use Rattle.bq_word.specs.declared.SignBits.{SignBits}
use Rattle.bq_word.specs.declared.SignBits.TheVariants.{B8, B16, B32}
use Rattle.bq_word.specs.declared.SwapBits.{SwapBits}
use Rattle.bq_word.specs.declared.Relation.{Relation}
use Rattle.bq_word.proofs.Low.{operation_low, sub_is}
use Rattle.bq_word.proofs.Bounds.{low_bound, extended_bound, swapped_bound}
use Rattle.bq_range.specs.Interval.{Interval, IsIn, between, single, is_single, whole, cut}
use Rattle.bq_range.specs.Table.{operated, negatives, negated, extensions, sign_extended, low_range, swapped_range}
use Rattle.bq_range.specs.Narrow.{branched}
use Rattle.bq_range.proofs.Held.{IsIn-whole, pick, pick_le, pick_lt, pick_eq}
use Rattle.bq_range.proofs.Rows.{row_holds}
use Rattle.bq_range.proofs.Edges.{AreRanges}
use Rattle.bq_range.proofs.Both.{edge, HoldBoth, edge_covers}

-- ---- operands cut to their low bits

pub cut_covers : (w : ℕ) (a : Interval) (x : ℕ) → IsIn x a → IsIn (low w x) (cut w a)
cut_covers w a x h =
    pick_eq (a.lo / 2 ^ w) (a.hi / 2 ^ w) _ _ _
    (λ e. let l : a.lo / 2 ^ w ≤ x / 2 ^ w = shr_mono w h.low in
    let k : x / 2 ^ w ≤ a.hi / 2 ^ w = shr_mono w h.high in
    let p : 2 ^ w * (a.lo / 2 ^ w) ≡ 2 ^ w * (x / 2 ^ w) = ap (λ (n : ℕ). 2 ^ w * n) (omega arith) in
    let q : 2 ^ w * (a.hi / 2 ^ w) ≡ 2 ^ w * (x / 2 ^ w) = ap (λ (n : ℕ). 2 ^ w * n) (omega arith) in
    record { low = omega (arith, div-add-mod a.lo (2 ^ w), div-add-mod x (2 ^ w)); high = omega (arith, div-add-mod a.hi (2 ^ w), div-add-mod x (2 ^ w)) })
    (IsIn-whole w (low w x) (low_bound w x))

pub cut_bound : (w : ℕ) (a : Interval) → (cut w a).hi < 2 ^ w
cut_bound w a =
    cond_both (eqb (a.lo / 2 ^ w) (a.hi / 2 ^ w)) (between (low w a.lo) (low w a.hi)) (whole w) (λ r. r.hi < 2 ^ w)
    (λ _. low_bound w a.hi)
    (λ _. omega (arith, pow_pos w))

-- ---- two operands

pub operated_covers : (width : Width) (op : AluOp) (a b : Interval) (x y : ℕ) → IsIn x a → IsIn y b
    → IsIn (operation (bits_of width) op x y) (operated (bits_of width) op a b)
operated_covers width op a b x y h k =
    let w : ℕ = bits_of width in
    pick (is_single a && is_single b) _ _ _
    (λ e. let (i, j) = and_parts (is_single a) (is_single b) e in
    let ea : a.lo ≡ a.hi = eqb-true a.lo a.hi i in
    let eb : b.lo ≡ b.hi = eqb-true b.lo b.hi j in
    let ex : x ≡ a.lo = omega arith in
    let ey : y ≡ b.lo = omega arith in
    rw (ex, ey) (record { low = omega arith; high = omega arith }))
    (λ _. rw (← operation_low width op x y)
    (row_holds width (cut w a) (cut w b) (low w x) (low w y) (cut_bound w a) (cut_bound w b) (cut_covers w a x h) (cut_covers w b y k) op))

-- ---- one operand

-- a single number, or more
of_single : (f : ℕ → ℕ) (a v : Interval) (x : ℕ) → IsIn x a → IsIn (f x) v → IsIn (f x) (cond (is_single a) (single (f a.lo)) v)
of_single f a v x h k =
    pick_eq a.lo a.hi _ _ _
    (λ e. let ex : a.lo ≡ x = omega arith in subst (λ (n : ℕ). IsIn (f n) (single (f a.lo))) ex (record { low = omega arith; high = omega arith }))
    k

negatives_hold : (w : ℕ) (a : Interval) (x : ℕ) → a.hi < 2 ^ w → IsIn x a → IsIn ((0 + (2 ^ w - x)) % 2 ^ w) (negatives w a)
negatives_hold w a x p h =
    pick_le 1 a.lo _ _ _
    (λ s. let e : (0 + (2 ^ w - x)) % 2 ^ w ≡ 0 + (2 ^ w - x) = mod-eq_of_lt (omega arith) in record { low = omega arith; high = omega arith })
    (λ s. IsIn-whole w ((0 + (2 ^ w - x)) % 2 ^ w) (mod_below (0 + (2 ^ w - x)) (2 ^ w) (pow_pos w)))

pub negated_covers : (w : ℕ) (a : Interval) (x : ℕ) → IsIn x a → IsIn (operation w Sub 0 x) (negated w a)
negated_covers w a x h =
    of_single (λ n. operation w Sub 0 n) a (negatives w (cut w a)) x h
    (rw (sub_is w 0 x) (negatives_hold w (cut w a) (low w x) (cut_bound w a) (cut_covers w a x h)))

-- a number whose low bits have no sign is what its sign extension is
extended_small : (from : SignBits) (to : Width) (x : ℕ) → low (bits_of to) x < 2 ^ (sign_bits from - 1)
    → extended (sign_bits from) (bits_of to) x ≡ low (bits_of to) x
extended_small B8 W32 x h = grind (arith, ints)
extended_small B8 W64 x h = grind (arith, ints)
extended_small B16 W32 x h = grind (arith, ints)
extended_small B16 W64 x h = grind (arith, ints)
extended_small B32 W32 x h = grind (arith, ints)
extended_small B32 W64 x h = grind (arith, ints)

pub sign_extended_covers : (from : SignBits) (to : Width) (a : Interval) (x : ℕ) → IsIn x a
    → IsIn (extended (sign_bits from) (bits_of to) x) (sign_extended (sign_bits from) (bits_of to) a)
sign_extended_covers from to a x h =
    let k : IsIn (low (bits_of to) x) (cut (bits_of to) a) = cut_covers (bits_of to) a x h in
    of_single (λ n. extended (sign_bits from) (bits_of to) n) a (extensions (sign_bits from) (bits_of to) (cut (bits_of to) a)) x h
    (pick_lt (cut (bits_of to) a).hi (2 ^ (sign_bits from - 1)) _ _ _
    (λ s. rw (extended_small from to x (omega arith)) k)
    (λ s. IsIn-whole (bits_of to) (extended (sign_bits from) (bits_of to) x) (extended_bound (sign_bits from) (bits_of to) x)))

pub low_range_covers : (n : ℕ) (a : Interval) (x : ℕ) → IsIn x a → IsIn (low n x) (low_range n a)
low_range_covers n a x h =
    of_single (low n) a _ x h
    (pick_lt a.hi (2 ^ n) _ _ _
    (λ s. let e : x % 2 ^ n ≡ x = mod-eq_of_lt (omega arith) in rw e h)
    (λ s. IsIn-whole n (low n x) (low_bound n x)))

pub swapped_range_covers : (bits : SwapBits) (a : Interval) (x : ℕ) → IsIn x a → IsIn (swapped (swap_bits bits) x) (swapped_range (swap_bits bits) a)
swapped_range_covers bits a x h =
    of_single (swapped (swap_bits bits)) a (whole (swap_bits bits)) x h
    (IsIn-whole (swap_bits bits) (swapped (swap_bits bits) x) (swapped_bound bits x))

-- ---- branches

pub branched_covers : (width : Width) (relation : Relation) (taken : Bool) (a b : Interval) (x y : ℕ) → IsIn x a → IsIn y b
    → relates (bits_of width) relation x y ≡ taken → IsSomeAnd (branched (bits_of width) relation taken a b) (λ p. IsIn x p.0 × IsIn y p.1)
branched_covers width relation taken a b x y h k s =
    let w = bits_of width in
    cond_both (ltb a.hi (2 ^ w) && ltb b.hi (2 ^ w)) (edge w relation taken a b) (Some (a, b)) (HoldBoth x y)
    (λ e. let (i, j) = and_parts (ltb a.hi (2 ^ w)) (ltb b.hi (2 ^ w)) e in
    let r : AreRanges w a b = record { a_ordered = omega arith; b_ordered = omega arith; a_fits = ltb-true _ _ i; b_fits = ltb-true _ _ j } in
    edge_covers width a b r relation taken x y h k s)
    (λ _. (h, k))
