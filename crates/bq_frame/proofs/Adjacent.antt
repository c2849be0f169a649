-- Parts that are written one behind the other, and what lies where a part was written.
use Rattle.std.proofs.Common.{◌≡◌, ◌∙◌, ℕ, ◌+◌, ◌≤◌, List, ◌++◌, length, take, drop, ap, sym, arith, length-append}
use Rattle.std.specs.List.{splice}
use Rattle.std.proofs.lemmas.List.{append_assoc, drop-drop, drop_at, length-take-le, take_at, take-append-drop, take-append-le, take-take}
use Rattle.std.proofs.Math.Seq.{take-append_seam, take-append-add}

-- two parts in a row are one
pub adjacent : (xs p q : List ℕ) (a b k : ℕ) → b ≡ a + length p → b ≤ length xs → splice (splice xs a b p) b (b + k) q ≡ splice xs a (b + k) (p ++ q)
adjacent xs p q a b k is inside =
    let front : List ℕ = take a xs ++ p in
    let rest : List ℕ = drop b xs in
    let long : length front ≡ b = length-append (take a xs) p ∙ ap (λ n. n + length p) (length-take-le a xs (omega (arith, is, inside))) ∙ sym is in
    let whole : splice xs a b p ≡ front ++ rest = sym (append_assoc (take a xs) p rest) in
    let before : take b (front ++ rest) ≡ front = take_at front rest b long in
    let behind = sym (drop-drop k b (front ++ rest)) ∙ ap (drop k) (drop_at front rest b long) ∙ drop-drop k b xs in
    ap (λ l. splice l b (b + k) q) whole
    ∙ ap (λ l. l ++ (q ++ drop (b + k) (front ++ rest))) before
    ∙ ap (λ l. front ++ (q ++ l)) behind
    ∙ append_assoc (take a xs) p (q ++ drop (b + k) xs)
    ∙ ap (λ l. take a xs ++ l) (sym (append_assoc p q (drop (b + k) xs)))

-- what lies in front and behind, once all behind a place is given
module _ (xs new behind : List ℕ) (a : ℕ) (inside : a ≤ length xs) (whole : new ≡ take a xs ++ behind) where
  pub front_kept : take a new ≡ take a xs
  front_kept = ap (take a) whole ∙ take_at (take a xs) behind a (length-take-le a xs inside)

  pub behind_there : drop a new ≡ behind
  behind_there = ap (drop a) whole ∙ drop_at (take a xs) behind a (length-take-le a xs inside)

-- what lies before a part that was put, and the part itself
module _ (xs new ys : List ℕ) (a b : ℕ) (inside : a ≤ length xs) (put : new ≡ splice xs a b ys) where
  pub before_part : take a new ≡ take a xs
  before_part = front_kept xs new (ys ++ drop b xs) a inside put

  pub part_there : take (length ys) (drop a new) ≡ ys
  part_there = ap (take (length ys)) (behind_there xs new (ys ++ drop b xs) a inside put) ∙ take-append_seam ys (drop b xs)

-- the first n bytes of a part of which the first m lie there
pub part_first : (xs room new : List ℕ) (a n m : ℕ) → n ≤ m → m ≤ length room → a ≤ length xs → new ≡ splice xs a (a + m) (take m room)
    → take n (drop a new) ≡ take n room
part_first xs room new a n m few inside within is =
    ap (take n) (behind_there xs new (take m room ++ drop (a + m) xs) a within is)
    ∙ take-append-le n (take m room) (drop (a + m) xs) (omega (arith, few, length-take-le m room inside)) ∙ take-take n m room few

-- the two numbers of an entry, and behind them the value
pub entry_put : (xs one two three room p q : List ℕ) (n : ℕ) → length p ≡ 8 → length q ≡ 8 → 528 ≤ length xs
    → one ≡ splice xs 512 520 p → two ≡ splice one 520 528 q → take 528 three ≡ take 528 two → take n (drop 528 three) ≡ take n room
    → (take 512 three ≡ take 512 xs) × (take (16 + n) (drop 512 three) ≡ p ++ (q ++ take n room))
entry_put xs one two three room p q n eight also inside first second kept there =
    let both : length (p ++ q) ≡ 16 = length-append p q ∙ omega (arith, eight, also) in
    let within : 512 ≤ length xs = omega (arith, inside) in
    let front : List ℕ = take 512 xs ++ (p ++ q) in
    let rest : List ℕ = drop 528 three in
    let numbers : two ≡ splice xs 512 528 (p ++ q) =
    second ∙ ap (λ l. splice l 520 528 q) first ∙ adjacent xs p q 512 520 8 (omega (arith, eight)) (omega (arith, inside)) in
    let long : length front ≡ 528 = length-append (take 512 xs) (p ++ q) ∙ omega (arith, both, length-take-le 512 xs within) in
    let cut : take 528 two ≡ front = ap (take 528) (numbers ∙ sym (append_assoc (take 512 xs) (p ++ q) (drop 528 xs))) ∙ take_at front (drop 528 xs) 528 long in
    let whole = sym (take-append-drop 528 three) ∙ ap (λ l. l ++ rest) (kept ∙ cut) ∙ append_assoc (take 512 xs) (p ++ q) rest in (
      front_kept xs three ((p ++ q) ++ rest) 512 within whole,
      ap (take (16 + n)) (behind_there xs three ((p ++ q) ++ rest) 512 within whole) ∙ ap (λ k. take (k + n) ((p ++ q) ++ rest)) (sym both)
          ∙ take-append-add (p ++ q) rest n ∙ ap (λ l. (p ++ q) ++ l) there ∙ append_assoc p q (take n room),
    )
