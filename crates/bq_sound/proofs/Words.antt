-- Numbers that move by signed numbers modulo 2^64.
use Rattle.std.proofs.Common.{◌≡◌, ℕ, ◌+◌, ◌-◌, ◌*◌, ◌/◌, ◌^◌, ◌<◌, arith}
use Rattle.std.specs.Prelude.{ℤ, pos, negsuc, ◌+ℤ◌, ◌-ℤ◌}
use Rattle.std.proofs.lemmas.Int.{ints}
use borrow.Author.Differences.{up, down}
use Rattle.bq_word.specs.Word.{modulo}
use Rattle.bq_meaning.specs.Meaning.{moved}

-- two words that differ by multiples of 2^64 are one
same_residue : (a b j k : ℕ) → a < 2 ^ 64 → b < 2 ^ 64 → a + j * 2 ^ 64 ≡ b + k * 2 ^ 64 → a ≡ b
same_residue a b j k h i e = omega arith

-- a signed number modulo 2^64 is that number but for multiples of 2^64
record Residue (z : ℤ) : Type 0 where
  less : ℕ
  more : ℕ
  is : modulo 64 z + less * 2 ^ 64 + down z ≡ up z + more * 2 ^ 64
  small : modulo 64 z < 2 ^ 64

residue : (z : ℤ) → Residue z
residue (pos n) = record { less = n / 2 ^ 64; more = 0; is = omega arith; small = omega arith }
residue (negsuc n) = record { less = 0; more = n / 2 ^ 64 + 1; is = omega arith; small = omega arith }

pub moved_small : (a : ℕ) (z : ℤ) → moved a z < 2 ^ 64
moved_small a z = omega arith

-- two moves are one
pub moved_on : (a : ℕ) (x y : ℤ) → moved (moved a x) y ≡ moved a (x +ℤ y)
moved_on a x y =
    let rx = residue x in
    let ry = residue y in
    let rs = residue (x +ℤ y) in
    let q : ℕ = (a + modulo 64 x) / 2 ^ 64 in
    let q' : ℕ = (moved a x + modulo 64 y) / 2 ^ 64 in
    let q'' : ℕ = (a + modulo 64 (x +ℤ y)) / 2 ^ 64 in
    let j : ℕ = q + q' + rx.less + ry.less + rs.more in
    let k : ℕ = q'' + rx.more + ry.more + rs.less in
    let e : moved (moved a x) y + j * 2 ^ 64 ≡ moved a (x +ℤ y) + k * 2 ^ 64 = omega (arith, ints, rx.is, ry.is, rs.is) in
    same_residue _ _ j k (moved_small (moved a x) y) (moved_small a (x +ℤ y)) e

-- a number below it is a move back
pub moved_back : (a w : ℕ) (x y : ℤ) → modulo 64 y ≡ w → modulo 64 (pos (moved a x) -ℤ pos w) ≡ moved a (x -ℤ y)
moved_back a w x y f =
    let rx = residue x in
    let ry = residue y in
    let rs = residue (x -ℤ y) in
    let rd = residue (pos (moved a x) -ℤ pos w) in
    let q : ℕ = (a + modulo 64 x) / 2 ^ 64 in
    let q' : ℕ = (a + modulo 64 (x -ℤ y)) / 2 ^ 64 in
    let j : ℕ = rd.less + q + rx.less + ry.more + rs.more in
    let k : ℕ = rd.more + q' + rx.more + ry.less + rs.less in
    let e : modulo 64 (pos (moved a x) -ℤ pos w) + j * 2 ^ 64 ≡ moved a (x -ℤ y) + k * 2 ^ 64 = omega (arith, ints, rx.is, ry.is, rs.is, rd.is, f) in
    same_residue _ _ j k rd.small (moved_small a (x -ℤ y)) e

-- a number of 64 bits, read with its sign or without
pub word_is : (w : ℕ) → w < 2 ^ 64 → modulo 64 (pos w) ≡ w
word_is w h = omega arith

pub negative_is : (w : ℕ) → w < 2 ^ 64 → modulo 64 (negsuc (2 ^ 64 - 1 - w)) ≡ w
negative_is w h = omega arith
