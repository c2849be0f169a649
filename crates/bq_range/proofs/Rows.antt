-- Each row holds what its operation leaves of the numbers that its operands hold.
use Rattle.std.proofs.Common.{◌≡◌, ℕ, ◌+◌, ◌-◌, ◌*◌, ◌/◌, ◌%◌, ◌^◌, ◌<◌, ◌≤◌, Bool, true, cond, eqb, ltb, leb, arith, subst, inl, inr, ◌⊎◌, refl, ◌||◌}
use Rattle.std.specs.Prelude.{bit_or, bit_xor, max, min}
use Rattle.std.proofs.lemmas.Bool.{lt-ltb, le-ltb, or_cases, ltb-true, leb-true}
use Rattle.std.proofs.lemmas.Nat.{mul-le, pow_pos, or_lt, xor_lt, and_le_l, and_le_r, le_or_l, le_or_r, shr_le, mod_below}
use Rattle.std.proofs.Math.Nat.{mod-eq_of_lt, mul-one, div-le_self, mod-le, pow-le-pow_right}
use Rattle.std.proofs.Math.Pow.{shr_mono}
use Rattle.bq_word.specs.Word.{operation, bits_of}
use Rattle.bq_word.proofs.Low.{sub_is, mod_is}
use Rattle.bq_word.proofs.Bounds.{operation_bound}
use Rattle.bq_word.specs.declared.Width.{Width}
use Rattle.bq_word.specs.declared.AluOp.{AluOp}
use Rattle.bq_word.specs.declared.AluOp.TheVariants.{Add, Sub, Mul, Div, Or, And, ShiftLeft, ShiftRight, Mod, Xor, Mov, ArithmeticShiftRight}
use Rattle.bq_range.specs.Interval.{Interval, IsIn, between, single, top, whole}
use Rattle.bq_range.specs.Table.{row, sums, differences, products, quotients, remainders, ones, disjunctions, exclusive_disjunctions}
use Rattle.bq_range.specs.Table.{shifted_left, left_shifts, right_shifts, arithmetic_right_shifts}
use Rattle.bq_range.proofs.Held.{words, IsIn-whole, pick, pick_le, pick_lt, pick_eq, held_both, div_mono}
use Rattle.bq_range.proofs.Ones.{ones_above, ones_power}

-- a product of numbers below the ends
products_hold : (w : ℕ) (a b : Interval) (x y : ℕ) → IsIn x a → IsIn y b → IsIn ((x * y) % 2 ^ w) (products w a b)
products_hold w a b x y h k =
    pick_le (a.hi * b.hi) (top w) _ _ _
    (λ s. let u : x * y ≤ a.hi * b.hi = mul-le x y a.hi b.hi h.high k.high in
    let l : a.lo * b.lo ≤ x * y = mul-le a.lo b.lo x y h.low k.low in
    let e : (x * y) % 2 ^ w ≡ x * y = mod-eq_of_lt (omega (arith, pow_pos w)) in
    record { low = omega arith; high = omega arith })
    (λ s. IsIn-whole w ((x * y) % 2 ^ w) (mod_below (x * y) (2 ^ w) (pow_pos w)))

shifted_left_holds : (w : ℕ) (a : Interval) (x n : ℕ) → IsIn x a → IsIn ((x * 2 ^ n) % 2 ^ w) (shifted_left w a n)
shifted_left_holds w a x n h = products_hold w a (single (2 ^ n)) x (2 ^ n) h (record { low = omega arith; high = omega arith })

-- numbers up to z have the bits of `ones z` alone
bits_below : (x y z : ℕ) → z < 2 ^ 64 → x ≤ z → y ≤ z → (bit_or x y ≤ ones z) × (bit_xor x y ≤ ones z)
bits_below x y z h p q =
    let (k, e) = ones_power z in
    let above : z ≤ ones z = ones_above z h in
    let x_fits : x < 2 ^ k = omega (arith, pow_pos k) in
    let y_fits : y < 2 ^ k = omega (arith, pow_pos k) in
    (omega (arith, or_lt k x y x_fits y_fits), omega (arith, xor_lt k x y x_fits y_fits))

-- ---- the arithmetic shift: a number without sign and one with it

half_le : (w : ℕ) → 2 ^ (w - 1) ≤ 2 ^ w
half_le w = pow-le-pow_right (omega arith) (omega arith)

pub plain : (w x y : ℕ) → x < 2 ^ (w - 1) → operation w ArithmeticShiftRight x y ≡ x / 2 ^ (y % w)
plain w x y h =
    let e : x % 2 ^ w ≡ x = mod-eq_of_lt (omega (arith, half_le w)) in
    rw (e, lt-ltb x (2 ^ (w - 1)) h) (mod-eq_of_lt (omega (arith, half_le w, shr_le x (y % w))))

negative : (w x y : ℕ) → 2 ^ (w - 1) ≤ x → x < 2 ^ w → operation w ArithmeticShiftRight x y ≡ 2 ^ w - 1 - (2 ^ w - 1 - x) / 2 ^ (y % w)
negative w x y h k =
    let e : x % 2 ^ w ≡ x = mod-eq_of_lt k in
    let d : (2 ^ w - 1 - x) / 2 ^ (y % w) % 2 ^ w ≡ (2 ^ w - 1 - x) / 2 ^ (y % w) = mod-eq_of_lt (omega (arith, shr_le (2 ^ w - 1 - x) (y % w))) in
    rw (e, le-ltb x (2 ^ (w - 1)) h, d) refl

-- on one side of the sign a greater number stays greater
pub shift_mono : (w x y n : ℕ) → x ≤ y → y < 2 ^ w → (y < 2 ^ (w - 1)) ⊎ (2 ^ (w - 1) ≤ x)
    → operation w ArithmeticShiftRight x n ≤ operation w ArithmeticShiftRight y n
shift_mono w x y n h k side =
    elim side [
      | inl below ↦ rw (plain w x n (omega arith), plain w y n below) (shr_mono (n % w) h)
      | inr above ↦ rw (negative w x n above (omega arith), negative w y n (omega arith) k)
          (omega (arith, shr_mono {a = 2 ^ w - 1 - y} {b = 2 ^ w - 1 - x} (n % w) (omega arith)))
    ]

-- a range on one side of the sign, the test of it, and the range of its ends shifted by one count
abbrev pub OneSide : ℕ → Interval → Type 0
OneSide w a = (a.hi < 2 ^ (w - 1)) ⊎ (2 ^ (w - 1) ≤ a.lo)

abbrev pub one_side : ℕ → Interval → Bool
one_side w a = ltb a.hi (2 ^ (w - 1)) || leb (2 ^ (w - 1)) a.lo

abbrev pub shifts : ℕ → Interval → ℕ → Interval
shifts w a n = between (operation w ArithmeticShiftRight a.lo n) (operation w ArithmeticShiftRight a.hi n)

-- which side a test shows
pub sides : (w : ℕ) (a : Interval) → one_side w a ≡ true → OneSide w a
sides w a e =
    elim (or_cases (ltb a.hi (2 ^ (w - 1))) (leb (2 ^ (w - 1)) a.lo) e) [
      | inl t ↦ inl (ltb-true a.hi (2 ^ (w - 1)) t)
      | inr t ↦ inr (leb-true (2 ^ (w - 1)) a.lo t)
    ]

pub shifts_by : (w : ℕ) (a : Interval) (x n : ℕ) → a.hi < 2 ^ w → IsIn x a → OneSide w a → IsIn (operation w ArithmeticShiftRight x n) (shifts w a n)
shifts_by w a x n p h side =
    elim side [
      | inl below ↦ record { low = shift_mono w a.lo x n h.low (omega arith) (inl (omega arith)); high = shift_mono w x a.hi n h.high p (inl below) }
      | inr above ↦ record { low = shift_mono w a.lo x n h.low (omega arith) (inr above); high = shift_mono w x a.hi n h.high p (inr (omega arith)) }
    ]

-- ---- a word of each operand, of ranges of numbers of w bits

module _ (w : ℕ) (a b : Interval) (x y : ℕ) (p : a.hi < 2 ^ w) (q : b.hi < 2 ^ w) (h : IsIn x a) (k : IsIn y b) where
  -- what is taken modulo 2 ^ w has w bits
  any : (n : ℕ) → IsIn (n % 2 ^ w) (whole w)
  any n = IsIn-whole w (n % 2 ^ w) (mod_below n (2 ^ w) (pow_pos w))

  sums_hold : IsIn ((x + y) % 2 ^ w) (sums w a b)
  sums_hold =
      pick_le (a.hi + b.hi) (top w) _ _ _
      (λ s. let e : (x + y) % 2 ^ w ≡ x + y = mod-eq_of_lt (omega arith) in record { low = omega arith; high = omega arith })
      (λ s. pick_lt (top w) (a.lo + b.lo) _ _ _
      (λ t. let e : (x + y) % 2 ^ w ≡ x + y - 2 ^ w = mod_is (2 ^ w) (x + y) (x + y - 2 ^ w) 1 (omega (arith, mul-one (2 ^ w))) (omega arith) in
      record { low = omega arith; high = omega arith })
      (λ t. any (x + y)))

  differences_hold : IsIn ((x + (2 ^ w - y)) % 2 ^ w) (differences w a b)
  differences_hold =
      pick_le b.hi a.lo _ _ _
      (λ s. let e : (x + (2 ^ w - y)) % 2 ^ w ≡ x - y = mod_is (2 ^ w) (x + (2 ^ w - y)) (x - y) 1 (omega (arith, mul-one (2 ^ w))) (omega arith) in
      record { low = omega arith; high = omega arith })
      (λ s. pick_lt a.hi b.lo _ _ _
      (λ t. let e : (x + (2 ^ w - y)) % 2 ^ w ≡ x + (2 ^ w - y) = mod-eq_of_lt (omega arith) in record { low = omega arith; high = omega arith })
      (λ t. any (x + (2 ^ w - y))))

  quotients_hold : IsIn (cond (eqb y 0) 0 (x / y)) (quotients a b)
  quotients_hold =
      pick_le 1 b.lo _ _ _
      (λ s. held_both (between (a.lo / b.hi) (a.hi / b.lo)) y 0 (x / y) (λ z. absurd (omega arith))
      (λ z. record { low = div_mono a.lo x b.hi y h.low k.high (omega arith); high = div_mono x a.hi y b.lo h.high k.low s }))
      (λ s. held_both (between 0 a.hi) y 0 (x / y) (λ z. record { low = omega arith; high = omega arith })
      (λ z. record { low = omega arith; high = omega (arith, div-le_self x y) }))

  remainders_hold : IsIn (cond (eqb y 0) x (x % y)) (remainders a b)
  remainders_hold =
      pick_le 1 b.lo _ _ _
      (λ s. pick_lt a.hi b.lo _ _ _
      (λ t. held_both a y x (x % y) (λ z. h) (λ z. let e : x % y ≡ x = mod-eq_of_lt (omega arith) in record { low = omega arith; high = omega arith }))
      (λ t. held_both (between 0 (min a.hi (b.hi - 1))) y x (x % y) (λ z. absurd (omega arith))
      (λ z. record { low = omega arith; high = omega (arith, mod-le x y, mod_below x y (omega arith)) })))
      (λ s. held_both (between 0 a.hi) y x (x % y) (λ z. record { low = omega arith; high = omega arith })
      (λ z. record { low = omega arith; high = omega (arith, mod-le x y) }))

  bits_hold : 2 ^ w ≤ 2 ^ 64 → (bit_or x y ≤ ones (max a.hi b.hi)) × (bit_xor x y ≤ ones (max a.hi b.hi))
  bits_hold l = bits_below x y (max a.hi b.hi) (omega arith) (omega arith) (omega arith)

  disjunctions_hold : 2 ^ w ≤ 2 ^ 64 → IsIn (bit_or x y) (disjunctions a b)
  disjunctions_hold l = record { low = omega (arith, le_or_l x y, le_or_r x y); high = (bits_hold l).0 }

  exclusive_hold : 2 ^ w ≤ 2 ^ 64 → IsIn (bit_xor x y) (exclusive_disjunctions a b)
  exclusive_hold l = record { low = omega arith; high = (bits_hold l).1 }

  left_shifts_hold : IsIn ((x * 2 ^ (y % w)) % 2 ^ w) (left_shifts w a b)
  left_shifts_hold =
      pick_eq b.lo b.hi _ _ _
      (λ s. let e : b.lo ≡ y = omega arith in
      subst (λ (c : ℕ). IsIn ((x * 2 ^ (c % w)) % 2 ^ w) (shifted_left w a (b.lo % w))) e (shifted_left_holds w a x (b.lo % w) h))
      (any (x * 2 ^ (y % w)))

  right_shifts_hold : IsIn (x / 2 ^ (y % w)) (right_shifts w a b)
  right_shifts_hold =
      pick_eq b.lo b.hi _ _ _
      (λ s. let e : b.lo ≡ y = omega arith in
      subst (λ (c : ℕ). IsIn (x / 2 ^ (c % w)) (between (a.lo / 2 ^ (b.lo % w)) (a.hi / 2 ^ (b.lo % w)))) e
      (record { low = shr_mono (b.lo % w) h.low; high = shr_mono (b.lo % w) h.high }))
      (record { low = omega arith; high = omega (arith, shr_le x (y % w)) })

  arithmetic_right_shifts_hold : IsIn (operation w ArithmeticShiftRight x y) (arithmetic_right_shifts w a b)
  arithmetic_right_shifts_hold =
      let all = IsIn-whole w (operation w ArithmeticShiftRight x y) (operation_bound w ArithmeticShiftRight x y) in
      pick_eq b.lo b.hi _ _ _
      (λ s. pick (one_side w a) _ _ _
      (λ t. let e : b.lo ≡ y = omega arith in
      subst (λ (c : ℕ). IsIn (operation w ArithmeticShiftRight x c) (shifts w a b.lo)) e (shifts_by w a x b.lo p h (sides w a t)))
      (λ t. all))
      (pick_lt a.hi (2 ^ (w - 1)) _ _ _
      (λ t. rw (plain w x y (omega arith)) (record { low = omega arith; high = omega (arith, shr_le x (y % w)) }))
      (λ t. all))

-- ---- all rows

module _ (width : Width) (a b : Interval) (x y : ℕ) (p : a.hi < 2 ^ bits_of width) (q : b.hi < 2 ^ bits_of width) (h : IsIn x a) (k : IsIn y b) where
  -- a number of its width is its low bits
  low_x : x % 2 ^ bits_of width ≡ x
  low_x = mod-eq_of_lt (omega arith)

  low_y : y % 2 ^ bits_of width ≡ y
  low_y = mod-eq_of_lt (omega arith)

  pub row_holds : (op : AluOp) → IsIn (operation (bits_of width) op x y) (row (bits_of width) op a b)
  row_holds Add = sums_hold (bits_of width) a b x y p q h k
  row_holds Sub = rw (sub_is (bits_of width) x y, low_y) (differences_hold (bits_of width) a b x y p q h k)
  row_holds Mul = products_hold (bits_of width) a b x y h k
  row_holds Div = rw (low_x, low_y) (quotients_hold (bits_of width) a b x y p q h k)
  row_holds Or = rw (low_x, low_y) (disjunctions_hold (bits_of width) a b x y p q h k (words width))
  row_holds And = rw (low_x, low_y) (record { low = omega arith; high = omega (arith, and_le_l x y, and_le_r x y) })
  row_holds ShiftLeft = left_shifts_hold (bits_of width) a b x y p q h k
  row_holds ShiftRight = rw low_x (right_shifts_hold (bits_of width) a b x y p q h k)
  row_holds Mod = rw (low_x, low_y) (remainders_hold (bits_of width) a b x y p q h k)
  row_holds Xor = rw (low_x, low_y) (exclusive_hold (bits_of width) a b x y p q h k (words width))
  row_holds Mov = rw low_y k
  row_holds ArithmeticShiftRight = arithmetic_right_shifts_hold (bits_of width) a b x y p q h k
  row_holds op = IsIn-whole (bits_of width) (operation (bits_of width) op x y) (operation_bound (bits_of width) op x y)
