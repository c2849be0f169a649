-- Smaller operands leave smaller results, row by row, and ranges of words leave ranges of words.
use Rattle.std.proofs.Common.{◌≡◌, ℕ, ◌+◌, ◌-◌, ◌*◌, ◌/◌, ◌%◌, ◌^◌, ◌<◌, ◌≤◌, Bool, true, false, cond, eqb, ltb, leb, arith, ap, sym, ◌∙◌, inl, inr, ◌&&◌}
use Rattle.std.specs.Prelude.{max}
use Rattle.std.proofs.lemmas.Bool.{cond_both, true≢false, lt-ltb, le-leb, eqb-true, eqb-false, eq-eqb, and_parts, and_from, or_left, or_right}
use Rattle.std.proofs.lemmas.Nat.{mul-le, pow_pos, shr_le}
use Rattle.std.proofs.Math.Nat.{div-le_self}
use Rattle.std.proofs.Math.Pow.{shr_mono}
use Rattle.bq_word.specs.Word.{operation, bits_of, low, extended, swapped, sign_bits, swap_bits}
use Rattle.bq_word.specs.declared.SignBits.{SignBits}
use Rattle.bq_word.specs.declared.SwapBits.{SwapBits}
use Rattle.bq_word.specs.declared.SwapBits.TheVariants.{B16}
use Rattle.bq_word.specs.declared.Width.{Width}
use Rattle.bq_word.specs.declared.AluOp.{AluOp}
use Rattle.bq_word.specs.declared.AluOp.TheVariants.{Add, Sub, Mul, Div, Or, And, ShiftLeft, ShiftRight, Mod, Xor, Mov, ArithmeticShiftRight}
use Rattle.bq_word.proofs.Bounds.{low_bound, operation_bound, extended_bound, swapped_bound}
use Rattle.bq_range.specs.Interval.{Interval, IsInterval, IsIn, Within, between, single, is_single, top, whole, cut}
use Rattle.bq_range.specs.Table.{operated, row, sums, differences, products, quotients, remainders, ones, shifted_left, left_shifts, right_shifts}
use Rattle.bq_range.specs.Table.{arithmetic_right_shifts, negatives, negated, extensions, sign_extended, low_range, swapped_range}
use Rattle.bq_range.specs.Monotone.{IsPart}
use Rattle.bq_range.proofs.Held.{choose_le, choose_lt, itself, div_mono, words}
use Rattle.bq_range.proofs.Ones.{ones_above, ones_least, ones_power}
use Rattle.bq_range.proofs.Rows.{OneSide, one_side, shifts, shifts_by, sides, plain}
use Rattle.bq_range.proofs.Covers.{cut_covers, cut_bound, operated_covers, negated_covers, sign_extended_covers, low_range_covers, swapped_range_covers}

-- ---- choices

small : (t : Bool) (u v r : Interval) → (t ≡ true → Within u r) → (t ≡ false → Within v r) → Within (cond t u v) r
small t u v r = cond_both t u v (λ x. Within x r)

large : (t : Bool) (u v r : Interval) → (t ≡ true → Within r u) → (t ≡ false → Within r v) → Within r (cond t u v)
large t u v r = cond_both t u v (λ x. Within r x)

small_le : (i j : ℕ) (u v r : Interval) → (i ≤ j → Within u r) → (j < i → Within v r) → Within (cond (leb i j) u v) r
small_le i j u v r = choose_le (λ x. Within x r) i j u v

small_lt : (i j : ℕ) (u v r : Interval) → (i < j → Within u r) → (j ≤ i → Within v r) → Within (cond (ltb i j) u v) r
small_lt i j u v r = choose_lt (λ x. Within x r) i j u v

large_le : (i j : ℕ) (u v r : Interval) → (i ≤ j → Within r u) → (j < i → Within r v) → Within r (cond (leb i j) u v)
large_le i j u v r = choose_le (Within r) i j u v

large_lt : (i j : ℕ) (u v r : Interval) → (i < j → Within r u) → (j ≤ i → Within r v) → Within r (cond (ltb i j) u v)
large_lt i j u v r = choose_lt (Within r) i j u v

-- a range of numbers of w bits
abbrev Fits : ℕ → Interval → Type 0
Fits w r = r.hi < 2 ^ w

whole_fits : (w : ℕ) → Fits w (whole w)
whole_fits w = omega (arith, pow_pos w)

fits_either : (w : ℕ) (t : Bool) (u v : Interval) → Fits w u → Fits w v → Fits w (cond t u v)
fits_either w t u v h k = cond_both t u v (Fits w) (λ _. h) (λ _. k)

in_whole : (w : ℕ) (r : Interval) → r.hi < 2 ^ w → Within r (whole w)
in_whole w r h = record { low = omega arith; high = omega arith }

-- the ends of a range lie in a larger one
least_of : (a c : Interval) → a.lo ≤ a.hi → Within a c → IsIn a.lo c
least_of a c o l = record { low = l.low; high = omega (arith, o, l.high) }

greatest_of : (a c : Interval) → a.lo ≤ a.hi → Within a c → IsIn a.hi c
greatest_of a c o l = record { low = omega (arith, o, l.low); high = l.high }

lowest : (a : Interval) → a.lo ≤ a.hi → IsIn a.lo a
lowest a o = record { low = omega arith; high = o }

-- ---- a row leaves numbers of the width

sums_fit : (w : ℕ) (a b : Interval) → Fits w a → Fits w b → Fits w (sums w a b)
sums_fit w a b h k =
    choose_le (Fits w) (a.hi + b.hi) (top w) _ _ (λ s. omega (arith, s, pow_pos w))
    (λ _. choose_lt (Fits w) (top w) (a.lo + b.lo) _ (whole w) (λ _. omega arith) (λ _. whole_fits w))

differences_fit : (w : ℕ) (a b : Interval) → Fits w a → Fits w b → Fits w (differences w a b)
differences_fit w a b h k =
    choose_le (Fits w) b.hi a.lo _ _ (λ _. omega arith)
    (λ _. choose_lt (Fits w) a.hi b.lo _ (whole w) (λ s. omega (arith, s)) (λ _. whole_fits w))

products_fit : (w : ℕ) (a b : Interval) → Fits w (products w a b)
products_fit w a b = choose_le (Fits w) (a.hi * b.hi) (top w) _ (whole w) (λ s. omega (arith, s, pow_pos w)) (λ _. whole_fits w)

shifted_left_fits : (w : ℕ) (a : Interval) (n : ℕ) → Fits w (shifted_left w a n)
shifted_left_fits w a n = products_fit w a (single (2 ^ n))

left_shifts_fit : (w : ℕ) (a b : Interval) → Fits w (left_shifts w a b)
left_shifts_fit w a b = fits_either w (is_single b) _ _ (shifted_left_fits w a (b.lo % w)) (whole_fits w)

arithmetic_fit : (w : ℕ) (a b : Interval) → Fits w a → Fits w (arithmetic_right_shifts w a b)
arithmetic_fit w a b h =
    fits_either w (is_single b) _ _
    (fits_either w (one_side w a) (shifts w a b.lo) (whole w) (operation_bound w ArithmeticShiftRight a.hi b.lo) (whole_fits w))
    (fits_either w (ltb a.hi (2 ^ (w - 1))) (between 0 a.hi) (whole w) h (whole_fits w))

negatives_fit : (w : ℕ) (a : Interval) → Fits w (negatives w a)
negatives_fit w a = choose_le (Fits w) 1 a.lo _ (whole w) (λ s. omega (arith, s, pow_pos w)) (λ _. whole_fits w)

extensions_fit : (n w : ℕ) (a : Interval) → Fits w (extensions n w (cut w a))
extensions_fit n w a = fits_either w (ltb (cut w a).hi (2 ^ (n - 1))) (cut w a) (whole w) (cut_bound w a) (whole_fits w)

module _ (width : Width) (a b : Interval) (h : Fits (bits_of width) a) (k : Fits (bits_of width) b) where
  ones_fit : ones (max a.hi b.hi) < 2 ^ bits_of width
  ones_fit = ones_least (max a.hi b.hi) (bits_of width) (omega (arith, words width, h, k)) (omega (arith, h, k))

  row_fits : (op : AluOp) → Fits (bits_of width) (row (bits_of width) op a b)
  row_fits Add = sums_fit (bits_of width) a b h k
  row_fits Sub = differences_fit (bits_of width) a b h k
  row_fits Mul = products_fit (bits_of width) a b
  row_fits Div = fits_either (bits_of width) (leb 1 b.lo) (between (a.lo / b.hi) (a.hi / b.lo)) (between 0 a.hi) (omega (arith, h, div-le_self a.hi b.lo)) h
  row_fits Or = ones_fit
  row_fits And = omega (arith, h)
  row_fits ShiftLeft = left_shifts_fit (bits_of width) a b
  row_fits ShiftRight = fits_either (bits_of width) (is_single b) _ (between 0 a.hi) (omega (arith, h, shr_le a.hi (b.lo % bits_of width))) h
  row_fits Mod = fits_either (bits_of width) (leb 1 b.lo) _ (between 0 a.hi) (fits_either (bits_of width) (ltb a.hi b.lo) a _ h (omega (arith, h))) h
  row_fits Xor = ones_fit
  row_fits Mov = k
  row_fits ArithmeticShiftRight = arithmetic_fit (bits_of width) a b h
  row_fits op = whole_fits (bits_of width)

-- ---- smaller operands leave smaller ranges

ones_mono : (x y : ℕ) → x ≤ y → y < 2 ^ 64 → ones x ≤ ones y
ones_mono x y h k =
    let (n, e) = ones_power y in
    let above : y ≤ ones y = ones_above y k in
    let below : ones x < 2 ^ n = ones_least x n (omega (arith, h, k)) (omega (arith, above, e, h, pow_pos n)) in
    omega (arith, below, e)

-- a single count is that of the smaller range too
is_also_single : (b d : Interval) → b.lo ≤ b.hi → Within b d → d.lo ≡ d.hi → (is_single b ≡ true) × (b.lo ≡ d.lo)
is_also_single b d o r e = (eq-eqb b.lo b.hi (omega (arith, r.low, r.high)), omega (arith, r.low, r.high))

products_within : (w : ℕ) (a b c d : Interval) → Within a c → Within b d → Within (products w a b) (products w c d)
products_within w a b c d l r =
    let most : a.hi * b.hi ≤ c.hi * d.hi = mul-le a.hi b.hi c.hi d.hi l.high r.high in
    large_le (c.hi * d.hi) (top w) _ _ _
    (λ s. small_le (a.hi * b.hi) (top w) _ _ _
    (λ t. record { low = mul-le c.lo d.lo a.lo b.lo l.low r.low; high = most })
    (λ t. absurd (omega (arith, most))))
    (λ s. in_whole w (products w a b) (products_fit w a b))

-- what is common to the rows: ranges that are not empty, of numbers of the width, each inside the other
record Inside (w : ℕ) (a b c d : Interval) : Type 0 where
  a_ordered : a.lo ≤ a.hi
  b_ordered : b.lo ≤ b.hi
  c_fits : c.hi < 2 ^ w
  d_fits : d.hi < 2 ^ w
  left : Within a c
  right : Within b d

module _ (w : ℕ) (a b c d : Interval) (h : Inside w a b c d) where
  open h use {a_ordered, b_ordered, c_fits, d_fits, left as l, right as r}

  left_fits : Fits w a
  left_fits = omega (arith, l.high, c_fits)

  right_fits : Fits w b
  right_fits = omega (arith, r.high, d_fits)

  -- a row that asks whether the divisor may be 0
  by_divisor : (u v x y : Interval) → (1 ≤ d.lo → Within u x) → (d.lo < 1 → 1 ≤ b.lo → Within u y) → Within v y
      → Within (cond (leb 1 b.lo) u v) (cond (leb 1 d.lo) x y)
  by_divisor u v x y never later zero =
      large_le 1 d.lo _ _ _
      (λ s. small_le 1 b.lo _ _ _ (λ t. never s) (λ t. absurd (omega (arith, r.low))))
      (λ s. small_le 1 b.lo _ _ _ (λ t. later s t) (λ t. zero))

  sums_within : Within (sums w a b) (sums w c d)
  sums_within =
      large_le (c.hi + d.hi) (top w) _ _ _
      (λ s. small_le (a.hi + b.hi) (top w) _ _ _
      (λ t. record { low = omega (arith, l.low, r.low); high = omega (arith, l.high, r.high) })
      (λ t. absurd (omega (arith, l.high, r.high))))
      (λ s. large_lt (top w) (c.lo + d.lo) _ _ _
      (λ t. small_le (a.hi + b.hi) (top w) _ _ _ (λ u. absurd (omega (arith, l.low, r.low, a_ordered, b_ordered)))
      (λ u. small_lt (top w) (a.lo + b.lo) _ _ _
      (λ v. record { low = omega (arith, l.low, r.low); high = omega (arith, l.high, r.high) })
      (λ v. absurd (omega (arith, l.low, r.low)))))
      (λ t. in_whole w (sums w a b) (sums_fit w a b left_fits right_fits)))

  differences_within : Within (differences w a b) (differences w c d)
  differences_within =
      large_le d.hi c.lo _ _ _
      (λ s. small_le b.hi a.lo _ _ _
      (λ t. record { low = omega (arith, l.low, r.high); high = omega (arith, l.high, r.low, a_ordered, b_ordered) })
      (λ t. absurd (omega (arith, l.low, r.high))))
      (λ s. large_lt c.hi d.lo _ _ _
      (λ t. small_le b.hi a.lo _ _ _ (λ u. absurd (omega (arith, l.high, r.low, a_ordered, b_ordered)))
      (λ u. small_lt a.hi b.lo _ _ _
      (λ v. record { low = omega (arith, l.low, r.high, d_fits); high = omega (arith, l.high, r.low, d_fits, right_fits, b_ordered) })
      (λ v. absurd (omega (arith, l.high, r.low, b_ordered, a_ordered)))))
      (λ t. in_whole w (differences w a b) (differences_fit w a b left_fits right_fits)))

  quotients_within : Within (quotients a b) (quotients c d)
  quotients_within =
      by_divisor _ _ _ _
      (λ s. record { low = div_mono c.lo a.lo d.hi b.hi l.low r.high (omega (arith, b_ordered)); high = div_mono a.hi c.hi b.lo d.lo l.high r.low s })
      (λ s t. record { low = omega arith; high = omega (arith, div-le_self a.hi b.lo, l.high) })
      (record { low = omega arith; high = l.high })

  remainders_within : Within (remainders a b) (remainders c d)
  remainders_within =
      by_divisor _ _ _ _
      (λ s. large_lt c.hi d.lo _ _ _
      (λ u. small_lt a.hi b.lo _ _ _ (λ v. l) (λ v. absurd (omega (arith, l.high, r.low))))
      (λ u. small_lt a.hi b.lo _ _ _
      (λ v. record { low = omega arith; high = omega (arith, l.high, r.high, b_ordered) })
      (λ v. record { low = omega arith; high = omega (arith, l.high, r.high) })))
      (λ s t. small_lt a.hi b.lo _ _ _ (λ v. record { low = omega arith; high = l.high }) (λ v. record { low = omega arith; high = omega (arith, l.high) }))
      (record { low = omega arith; high = l.high })

  ones_within : 2 ^ w ≤ 2 ^ 64 → ones (max a.hi b.hi) ≤ ones (max c.hi d.hi)
  ones_within p = ones_mono (max a.hi b.hi) (max c.hi d.hi) (omega (arith, l.high, r.high)) (omega (arith, p, c_fits, d_fits))

  -- a row that asks whether the count is single
  large_single : (u v x : Interval) → (d.lo ≡ d.hi → Within x u) → Within x v → Within x (cond (is_single d) u v)
  large_single u v x f g = large (is_single d) u v x (λ e. f (eqb-true d.lo d.hi e)) (λ _. g)

  same_count : d.lo ≡ d.hi → (is_single b ≡ true) × (2 ^ (b.lo % w) ≡ 2 ^ (d.lo % w))
  same_count e = let s = is_also_single b d b_ordered r e in (s.0, ap (λ (x : ℕ). 2 ^ (x % w)) s.1)

  left_shifts_within : Within (left_shifts w a b) (left_shifts w c d)
  left_shifts_within =
      large_single (shifted_left w c (d.lo % w)) (whole w) (left_shifts w a b)
      (λ e. let s = same_count e in
      let n = single (2 ^ (d.lo % w)) in
      rw (s.0, s.1) (products_within w a n c n l (itself n)))
      (in_whole w (left_shifts w a b) (left_shifts_fit w a b))

  right_shifts_within : Within (right_shifts w a b) (right_shifts w c d)
  right_shifts_within =
      large_single (between (c.lo / 2 ^ (d.lo % w)) (c.hi / 2 ^ (d.lo % w))) (between 0 c.hi) (right_shifts w a b)
      (λ e. let s = same_count e in
      rw (s.0, s.1) (record { low = shr_mono (d.lo % w) l.low; high = shr_mono (d.lo % w) l.high }))
      (small (is_single b) (between (a.lo / 2 ^ (b.lo % w)) (a.hi / 2 ^ (b.lo % w))) (between 0 a.hi) (between 0 c.hi)
      (λ _. record { low = omega arith; high = omega (arith, shr_le a.hi (b.lo % w), l.high) })
      (λ _. record { low = omega arith; high = l.high }))

  -- on one side of the sign
  smaller_side : OneSide w c → OneSide w a
  smaller_side side = elim side [ inl h ↦ inl (omega (arith, l.high)) | inr h ↦ inr (omega (arith, l.low)) ]

  test_of : OneSide w a → one_side w a ≡ true
  test_of side = elim side [
    | inl h ↦ or_left _ _ (lt-ltb a.hi (2 ^ (w - 1)) h)
    | inr h ↦ or_right _ _ (le-leb (2 ^ (w - 1)) a.lo h)
  ]

  shifts_within : (n : ℕ) → OneSide w c → Within (shifts w a n) (shifts w c n)
  shifts_within n side =
      let low = shifts_by w c a.lo n c_fits (least_of a c a_ordered l) side in
      let high = shifts_by w c a.hi n c_fits (greatest_of a c a_ordered l) side in
      record { low = low.low; high = high.high }

  arithmetic_within : Within (arithmetic_right_shifts w a b) (arithmetic_right_shifts w c d)
  arithmetic_within =
      large_single _ _ (arithmetic_right_shifts w a b)
      (λ e. large (one_side w c) (shifts w c d.lo) (whole w) (arithmetic_right_shifts w a b)
      (λ t. let s = is_also_single b d b_ordered r e in
      rw (s.0, test_of (smaller_side (sides w c t)), s.1) (shifts_within d.lo (sides w c t)))
      (λ t. any))
      (large_lt c.hi (2 ^ (w - 1)) (between 0 c.hi) (whole w) (arithmetic_right_shifts w a b)
      (λ t. small (is_single b) _ _ (between 0 c.hi)
      (λ _. small (one_side w a) (shifts w a b.lo) (whole w) (between 0 c.hi)
      (λ _. record { low = omega arith; high = omega (arith, plain w a.hi b.lo (below t), shr_le a.hi (b.lo % w), l.high) })
      (λ f. absurd (true≢false (sym (test_of (inl (below t))) ∙ f))))
      (λ _. small_lt a.hi (2 ^ (w - 1)) (between 0 a.hi) (whole w) (between 0 c.hi)
      (λ _. record { low = omega arith; high = l.high })
      (λ u. absurd (omega (arith, l.high)))))
      (λ t. any))
    where
      any : Within (arithmetic_right_shifts w a b) (whole w)
      any = in_whole w (arithmetic_right_shifts w a b) (arithmetic_fit w a b left_fits)

      below : c.hi < 2 ^ (w - 1) → a.hi < 2 ^ (w - 1)
      below t = omega (arith, t, l.high)

-- ---- all rows

row_within : (width : Width) (op : AluOp) (a b c d : Interval) → Inside (bits_of width) a b c d
    → Within (row (bits_of width) op a b) (row (bits_of width) op c d)
row_within width Add a b c d h = sums_within (bits_of width) a b c d h
row_within width Sub a b c d h = differences_within (bits_of width) a b c d h
row_within width Mul a b c d h = products_within (bits_of width) a b c d h.left h.right
row_within width Div a b c d h = quotients_within (bits_of width) a b c d h
row_within width Or a b c d h = record { low = omega (arith, h.left.low, h.right.low); high = ones_within (bits_of width) a b c d h (words width) }
row_within width And a b c d h = record { low = omega arith; high = omega (arith, h.left.high, h.right.high) }
row_within width ShiftLeft a b c d h = left_shifts_within (bits_of width) a b c d h
row_within width ShiftRight a b c d h = right_shifts_within (bits_of width) a b c d h
row_within width Mod a b c d h = remainders_within (bits_of width) a b c d h
row_within width Xor a b c d h = record { low = omega arith; high = ones_within (bits_of width) a b c d h (words width) }
row_within width Mov a b c d h = h.right
row_within width ArithmeticShiftRight a b c d h = arithmetic_within (bits_of width) a b c d h
row_within width _ a b c d h = itself (whole (bits_of width))

-- ---- operands cut to their low bits

cut_ordered : (w : ℕ) (a : Interval) → a.lo ≤ a.hi → (cut w a).lo ≤ (cut w a).hi
cut_ordered w a o = let h = cut_covers w a a.lo (record { low = omega arith; high = o }) in omega (arith, h.low, h.high)

cut_within : (w : ℕ) (a c : Interval) → IsPart a c → Within (cut w a) (cut w c)
cut_within w a c h =
    small (eqb (a.lo / 2 ^ w) (a.hi / 2 ^ w)) (between (low w a.lo) (low w a.hi)) (whole w) (cut w c)
    (λ _. let least = cut_covers w c a.lo (least_of a c ordered within) in
    let greatest = cut_covers w c a.hi (greatest_of a c ordered within) in
    record { low = least.low; high = greatest.high })
    (λ f. large (eqb (c.lo / 2 ^ w) (c.hi / 2 ^ w)) (between (low w c.lo) (low w c.hi)) (whole w) (whole w)
    (λ t. let e = eqb-true (c.lo / 2 ^ w) (c.hi / 2 ^ w) t in
    let p = shr_mono w within.low in
    let q = shr_mono w ordered in
    let s = shr_mono w within.high in
    absurd (eqb-false (a.lo / 2 ^ w) (a.hi / 2 ^ w) f (omega (arith, e, p, q, s))))
    (λ _. itself (whole w)))
  where
    open h use {words.{ordered}, within}

-- ---- two operands

one_word : (x : ℕ) (r : Interval) → IsIn x r → Within (single x) r
one_word x r h = record { low = h.low; high = h.high }

-- of one word a number, or else a range of numbers of the width
full_of_one : (w n : ℕ) (t : Bool) (v : Interval) → 2 ^ w ≤ 2 ^ 64 → n < 2 ^ w → Fits w v → IsIn n (cond t (single n) v) → IsInterval (cond t (single n) v)
full_of_one w n t v p h k l = record { ordered = omega (arith, l.low, l.high); words = omega (arith, p, fits_either w t (single n) v h k) }

-- parts of the operands leave a part
pub operated_part : (width : Width) (op : AluOp) (a b c d : Interval) → IsPart a c → IsPart b d
    → IsPart (operated (bits_of width) op a b) (operated (bits_of width) op c d)
operated_part width op a b c d h k = record { words = full; within = less }
  where
    open h use {words.{ordered as o}, within as l}
    open k use {words.{ordered as p}, within as r}

    full : IsInterval (operated (bits_of width) op a b)
    full =
        let w = bits_of width in
        full_of_one w (operation w op a.lo b.lo) (is_single a && is_single b) (row w op (cut w a) (cut w b)) (words width)
        (operation_bound w op a.lo b.lo) (row_fits width (cut w a) (cut w b) (cut_bound w a) (cut_bound w b) op)
        (operated_covers width op a b a.lo b.lo (lowest a o) (lowest b p))

    less : Within (operated (bits_of width) op a b) (operated (bits_of width) op c d)
    less =
        let w = bits_of width in
        small (is_single a && is_single b) (single (operation w op a.lo b.lo)) (row w op (cut w a) (cut w b)) (operated w op c d)
        (λ _. one_word _ (operated w op c d) (operated_covers width op c d a.lo b.lo (least_of a c o l) (least_of b d p r)))
        (λ f. large (is_single c && is_single d) (single (operation w op c.lo d.lo)) (row w op (cut w c) (cut w d)) (row w op (cut w a) (cut w b))
        (λ t. let (i, j) = and_parts (is_single c) (is_single d) t in
        let s = is_also_single a c o l (eqb-true c.lo c.hi i) in
        let u = is_also_single b d p r (eqb-true d.lo d.hi j) in
        absurd (true≢false (sym (and_from (is_single a) (is_single b) s.0 u.0) ∙ f)))
        (λ _. row_within width op (cut w a) (cut w b) (cut w c) (cut w d) (record {
          a_ordered = cut_ordered w a o;
          b_ordered = cut_ordered w b p;
          c_fits = cut_bound w c;
          d_fits = cut_bound w d;
          left = cut_within w a c h;
          right = cut_within w b d k;
        })))

-- ---- one operand

-- of one word the exact result, else a row
abbrev made : (ℕ → ℕ) → (Interval → Interval) → Interval → Interval
made f g r = cond (is_single r) (single (f r.lo)) (g r)

-- the larger range's result holds that of one word
of_one : (w : ℕ) (f : ℕ → ℕ) (g : Interval → Interval) (a c : Interval) → IsPart a c → 2 ^ w ≤ 2 ^ 64 → f a.lo < 2 ^ w
    → ((r : Interval) (x : ℕ) → IsIn x r → IsIn (f x) (made f g r)) → Fits w (g a) → Within (g a) (g c) → IsPart (made f g a) (made f g c)
of_one w f g a c h p bound covers fits less = record {
  words = full_of_one w (f a.lo) (is_single a) (g a) p bound fits (covers a a.lo (lowest a ordered));
  within = small (is_single a) (single (f a.lo)) (g a) (made f g c)
      (λ _. one_word (f a.lo) (made f g c) (covers c a.lo (least_of a c ordered within)))
      (λ n. large (is_single c) (single (f c.lo)) (g c) (g a)
      (λ t. let s = is_also_single a c ordered within (eqb-true c.lo c.hi t) in absurd (true≢false (sym s.0 ∙ n)))
      (λ _. less));
}
  where
    open h use {words.{ordered}, within}

negatives_within : (w : ℕ) (a c : Interval) → a.lo ≤ a.hi → Fits w c → Within a c → Within (negatives w a) (negatives w c)
negatives_within w a c o fits l =
    large_le 1 c.lo _ _ _
    (λ s. small_le 1 a.lo _ _ _ (λ t. record { low = omega (arith, l.high); high = omega (arith, l.low, o) }) (λ t. absurd (omega (arith, l.low))))
    (λ s. in_whole w (negatives w a) (negatives_fit w a))

pub negated_part : (width : Width) (a c : Interval) → IsPart a c → IsPart (negated (bits_of width) a) (negated (bits_of width) c)
negated_part width a c h =
    let w = bits_of width in
    of_one w (λ n. operation w Sub 0 n) (λ r. negatives w (cut w r)) a c h (words width) (operation_bound w Sub 0 a.lo) (negated_covers w)
    (negatives_fit w (cut w a))
    (negatives_within w (cut w a) (cut w c) (cut_ordered w a h.words.ordered) (cut_bound w c) (cut_within w a c h))

pub sign_extended_part : (from : SignBits) (to : Width) (a c : Interval) → IsPart a c
    → IsPart (sign_extended (sign_bits from) (bits_of to) a) (sign_extended (sign_bits from) (bits_of to) c)
sign_extended_part from to a c h =
    let w = bits_of to in
    let n = sign_bits from in
    let k = cut_within w a c h in
    of_one w (extended n w) (λ r. extensions n w (cut w r)) a c h (words to) (extended_bound n w a.lo) (sign_extended_covers from to)
    (extensions_fit n w a)
    (large_lt (cut w c).hi (2 ^ (n - 1)) (cut w c) (whole w) (extensions n w (cut w a))
    (λ s. small_lt (cut w a).hi (2 ^ (n - 1)) (cut w a) (whole w) (cut w c) (λ _. k) (λ t. absurd (omega (arith, k.high))))
    (λ s. in_whole w (extensions n w (cut w a)) (extensions_fit n w a)))

pub order_words : (bits : SwapBits) → 2 ^ swap_bits bits ≤ 2 ^ 64
order_words B16 = omega arith
order_words _ = omega arith

pub low_range_part : (bits : SwapBits) (a c : Interval) → IsPart a c → IsPart (low_range (swap_bits bits) a) (low_range (swap_bits bits) c)
low_range_part bits a c h =
    let n = swap_bits bits in
    let rest : Interval → Interval = λ r. cond (ltb r.hi (2 ^ n)) r (whole n) in
    of_one n (low n) rest a c h (order_words bits) (low_bound n a.lo) (low_range_covers n)
    (choose_lt (Fits n) a.hi (2 ^ n) a (whole n) (λ s. s) (λ _. whole_fits n))
    (large_lt c.hi (2 ^ n) c (whole n) (rest a)
    (λ s. small_lt a.hi (2 ^ n) a (whole n) c (λ _. h.within) (λ t. absurd (omega (arith, h.within.high))))
    (λ s. small_lt a.hi (2 ^ n) a (whole n) (whole n) (λ t. in_whole n a t) (λ _. itself (whole n))))

pub swapped_range_part : (bits : SwapBits) (a c : Interval) → IsPart a c → IsPart (swapped_range (swap_bits bits) a) (swapped_range (swap_bits bits) c)
swapped_range_part bits a c h =
    let n = swap_bits bits in
    of_one n (swapped n) (λ _. whole n) a c h (order_words bits) (swapped_bound bits a.lo) (swapped_range_covers bits) (whole_fits n) (itself (whole n))
