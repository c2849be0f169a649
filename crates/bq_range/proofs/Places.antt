-- The order of words that begins at h, by each word's place in it.
use Rattle.std.proofs.Common.{◌≡◌, ℕ, ◌+◌, ◌-◌, ◌<◌, ◌≤◌, cond, ltb, leb, arith, inl, inr, ◌⊎◌, ◌&&◌, refl}
use Rattle.std.proofs.lemmas.Bool.{cond_both, cases_lt, ltb-true, ltb-false, leb-true, lt-ltb, le-ltb, le-leb, and_parts}
use Rattle.std.specs.Option.{option_and_then}
use Rattle.bq_range.specs.Interval.{Interval, IsIn}
use Rattle.bq_range.specs.Narrow.{below, from, hull, first, last, ahead, behind}
use Rattle.bq_range.proofs.Pieces.{OnPiece, OnLeast, below_piece, from_piece, then_piece, piece_least, hull_least, least_like}

-- how many words come before this one
unfoldable pub place : ℕ → ℕ → ℕ
place h x = cond (ltb x h) (x + h) (x - h)

pub place_low : (h x : ℕ) → x < h → place h x ≡ x + h
unfolding place
place_low h x k = rw (lt-ltb x h k) refl

pub place_high : (h x : ℕ) → h ≤ x → place h x ≡ x - h
unfolding place
place_high h x k = rw (le-ltb x h k) refl

-- a word of the order, which has 2 * h words, or all
abbrev pub InOrder : ℕ → ℕ → Type 0
InOrder h x = (h ≡ 0) ⊎ (x < h + h)

wide : (h n : ℕ) → InOrder h n → 0 < h → n < h + h
wide h n o p = elim o [ inl e ↦ absurd (omega arith) | inr k ↦ k ]

-- ---- the words before a place, and those after it

pub ahead_least : (h d t : ℕ) (a : Interval) → a.lo ≤ a.hi → d ≤ 1 → InOrder h a.hi → InOrder h t
    → OnLeast (λ x. IsIn x a × (place h x < place h t + d)) (ahead h d t a)
ahead_least h d t a p one top o =
    let S : ℕ → Type 0 = λ x. IsIn x a × (place h x < place h t + d) in
    let low : OnPiece (λ x. (IsIn x a × (x < h)) × (x < t + d)) (option_and_then (below (t + d)) (below h a)) =
    then_piece (λ x. IsIn x a × (x < h)) (λ x. x < t + d) (below (t + d)) (below h a) (below_piece h a p) (λ r q. below_piece (t + d) r q) in
    let high : OnPiece (λ x. IsIn x a × (h ≤ x)) (from h a) = from_piece h a p in
    let upper : OnPiece (λ x. (IsIn x a × (h ≤ x)) × (x < t + d)) (option_and_then (below (t + d)) (from h a)) =
    then_piece (λ x. IsIn x a × (h ≤ x)) (λ x. x < t + d) (below (t + d)) (from h a) high (λ r q. below_piece (t + d) r q) in
    cond_both (ltb t h) (hull (option_and_then (below (t + d)) (below h a)) (from h a)) (option_and_then (below (t + d)) (from h a)) (OnLeast S)
    (λ e. let q : t < h = ltb-true t h e in
    let pt : place h t ≡ t + h = place_low h t q in
    let end : a.hi < h + h = wide h a.hi top (omega arith) in
    least_like (λ x. ((IsIn x a × (x < h)) × (x < t + d)) ⊎ (IsIn x a × (h ≤ x))) S _
    (λ x u. elim u [
      | inl v ↦ let ((k, l), m) = v in let px : place h x ≡ x + h = place_low h x l in (k, omega arith)
      | inr v ↦ let (k, l) = v in let px : place h x ≡ x - h = place_high h x l in (k, omega arith)
    ])
    (λ x (k, u). elim (cases_lt x h) [
      | inl l ↦ let px : place h x ≡ x + h = place_low h x l in inl ((k, l), omega arith)
      | inr l ↦ inr (k, l)
    ])
    (hull_least (λ x. (IsIn x a × (x < h)) × (x < t + d)) (λ x. IsIn x a × (h ≤ x)) _ _ low high))
    (λ e. let q : h ≤ t = ltb-false t h e in
    let pt : place h t ≡ t - h = place_high h t q in
    least_like (λ x. (IsIn x a × (h ≤ x)) × (x < t + d)) S _
    (λ x ((k, l), m). let px : place h x ≡ x - h = place_high h x l in (k, omega arith))
    (λ x (k, u). elim (cases_lt x h) [
      | inl l ↦ let px : place h x ≡ x + h = place_low h x l in let end : t < h + h = wide h t o (omega arith) in absurd (omega arith)
      | inr l ↦ let px : place h x ≡ x - h = place_high h x l in ((k, l), omega arith)
    ])
    (piece_least (λ x. (IsIn x a × (h ≤ x)) × (x < t + d)) _ upper))

pub behind_least : (h d t : ℕ) (a : Interval) → a.lo ≤ a.hi → d ≤ 1 → InOrder h a.hi → InOrder h t
    → OnLeast (λ x. IsIn x a × (place h t + d ≤ place h x)) (behind h d t a)
behind_least h d t a p one top o =
    let S : ℕ → Type 0 = λ x. IsIn x a × (place h t + d ≤ place h x) in
    let low : OnPiece (λ x. IsIn x a × (x < h)) (below h a) = below_piece h a p in
    let lower : OnPiece (λ x. (IsIn x a × (x < h)) × (t + d ≤ x)) (option_and_then (from (t + d)) (below h a)) =
    then_piece (λ x. IsIn x a × (x < h)) (λ x. t + d ≤ x) (from (t + d)) (below h a) low (λ r q. from_piece (t + d) r q) in
    let upper : OnPiece (λ x. (IsIn x a × (h ≤ x)) × (t + d ≤ x)) (option_and_then (from (t + d)) (from h a)) =
    then_piece (λ x. IsIn x a × (h ≤ x)) (λ x. t + d ≤ x) (from (t + d)) (from h a) (from_piece h a p) (λ r q. from_piece (t + d) r q) in
    cond_both (ltb t h) (option_and_then (from (t + d)) (below h a)) (hull (below h a) (option_and_then (from (t + d)) (from h a))) (OnLeast S)
    (λ e. let q : t < h = ltb-true t h e in
    let pt : place h t ≡ t + h = place_low h t q in
    let end : a.hi < h + h = wide h a.hi top (omega arith) in
    least_like (λ x. (IsIn x a × (x < h)) × (t + d ≤ x)) S _
    (λ x ((k, l), m). let px : place h x ≡ x + h = place_low h x l in (k, omega arith))
    (λ x (k, u). elim (cases_lt x h) [
      | inl l ↦ let px : place h x ≡ x + h = place_low h x l in ((k, l), omega arith)
      | inr l ↦ let px : place h x ≡ x - h = place_high h x l in absurd (omega arith)
    ])
    (piece_least (λ x. (IsIn x a × (x < h)) × (t + d ≤ x)) _ lower))
    (λ e. let q : h ≤ t = ltb-false t h e in
    let pt : place h t ≡ t - h = place_high h t q in
    least_like (λ x. (IsIn x a × (x < h)) ⊎ ((IsIn x a × (h ≤ x)) × (t + d ≤ x))) S _
    (λ x u. elim u [
      | inl v ↦ let (k, l) = v in let px : place h x ≡ x + h = place_low h x l in let end : t < h + h = wide h t o (omega arith) in (k, omega arith)
      | inr v ↦ let ((k, l), m) = v in let px : place h x ≡ x - h = place_high h x l in (k, omega arith)
    ])
    (λ x (k, u). elim (cases_lt x h) [
      | inl l ↦ inl (k, l)
      | inr l ↦ let px : place h x ≡ x - h = place_high h x l in inr ((k, l), omega arith)
    ])
    (hull_least (λ x. IsIn x a × (x < h)) (λ x. (IsIn x a × (h ≤ x)) × (t + d ≤ x)) _ _ low upper))

-- ---- the first and the last word of a range

-- the order begins inside the range, or its words are on one side
straddles : (h : ℕ) (b : Interval) → ((b.lo < h) × (h ≤ b.hi)) ⊎ ((b.hi < h) ⊎ (h ≤ b.lo))
straddles h b =
    elim (cases_lt b.hi h) [
      | inl k ↦ inr (inl k)
      | inr k ↦ elim (cases_lt b.lo h) [ inl l ↦ inl (l, k) | inr l ↦ inr (inr l) ]
    ]

pub record IsFirst (h : ℕ) (b : Interval) (f : ℕ) : Type 0 where
  pub held : IsIn f b
  pub least : (y : ℕ) → IsIn y b → place h f ≤ place h y

pub record IsLast (h : ℕ) (b : Interval) (f : ℕ) : Type 0 where
  pub held : IsIn f b
  pub greatest : (y : ℕ) → IsIn y b → place h y ≤ place h f

-- on one side of h places are in the words' own order
along : (h x y : ℕ) → (y < h) ⊎ (h ≤ x) → x ≤ y → place h x ≤ place h y
along h x y side k =
    elim side [
      | inl l ↦ let px : place h x ≡ x + h = place_low h x (omega arith) in let py : place h y ≡ y + h = place_low h y l in omega arith
      | inr l ↦ let px : place h x ≡ x - h = place_high h x l in let py : place h y ≡ y - h = place_high h y (omega arith) in omega arith
    ]

one_side : (h lo hi x y : ℕ) → (hi < h) ⊎ (h ≤ lo) → lo ≤ x → y ≤ hi → (y < h) ⊎ (h ≤ x)
one_side h lo hi x y side k l = elim side [ inl m ↦ inl (omega arith) | inr m ↦ inr (omega arith) ]

pub first_is : (h : ℕ) (b : Interval) → b.lo ≤ b.hi → IsFirst h b (first h b)
first_is h b p =
    elim (straddles h b) [
      | inl v ↦ let (l, k) = v in rw (lt-ltb b.lo h l, le-leb h b.hi k) (record {
        held = record { low = omega arith; high = k };
        least = λ y m. let ph : place h h ≡ h - h = place_high h h (omega arith) in omega arith;
      })
      | inr side ↦ cond_both (ltb b.lo h && leb h b.hi) h b.lo (λ f. IsFirst h b f)
          (λ e. let (s, t) = and_parts (ltb b.lo h) (leb h b.hi) e in
          let l : b.lo < h = ltb-true b.lo h s in let k : h ≤ b.hi = leb-true h b.hi t in
          absurd (elim side [ inl m ↦ omega arith | inr m ↦ omega arith ]))
          (λ e. record {
            held = record { low = omega arith; high = p };
            least = λ y m. along h b.lo y (one_side h b.lo b.hi b.lo y side (omega arith) m.high) m.low;
          })
    ]

pub last_is : (h : ℕ) (b : Interval) → b.lo ≤ b.hi → InOrder h b.hi → IsLast h b (last h b)
last_is h b p o =
    elim (straddles h b) [
      | inl v ↦ let (l, k) = v in rw (lt-ltb b.lo h l, le-leb h b.hi k) (record {
        held = record { low = omega arith; high = omega arith };
        greatest = λ y m.
            let ph : place h (h - 1) ≡ h - 1 + h = place_low h (h - 1) (omega arith) in
            let end : b.hi < h + h = wide h b.hi o (omega arith) in
            elim (cases_lt y h) [
              | inl n ↦ let py : place h y ≡ y + h = place_low h y n in omega arith
              | inr n ↦ let py : place h y ≡ y - h = place_high h y n in omega arith
            ];
      })
      | inr side ↦ cond_both (ltb b.lo h && leb h b.hi) (h - 1) b.hi (λ f. IsLast h b f)
          (λ e. let (s, t) = and_parts (ltb b.lo h) (leb h b.hi) e in
          let l : b.lo < h = ltb-true b.lo h s in let k : h ≤ b.hi = leb-true h b.hi t in
          absurd (elim side [ inl m ↦ omega arith | inr m ↦ omega arith ]))
          (λ e. record {
            held = record { low = p; high = omega arith };
            greatest = λ y m. along h y b.hi (one_side h b.lo b.hi y b.hi side m.low (omega arith)) m.high;
          })
    ]

-- ---- the words of a range that come before some word of another, and after some word

within : (h : ℕ) (b : Interval) (x : ℕ) → InOrder h b.hi → IsIn x b → InOrder h x
within h b x o k = elim o [ inl e ↦ inl e | inr l ↦ inr (omega arith) ]

pub before_some : (h d : ℕ) (a b : Interval) → a.lo ≤ a.hi → b.lo ≤ b.hi → d ≤ 1 → InOrder h a.hi → InOrder h b.hi
    → OnLeast (λ x. IsIn x a × ((y : ℕ) × IsIn y b × (place h x < place h y + d))) (ahead h d (last h b) a)
before_some h d a b p q one oa ob =
    let l : IsLast h b (last h b) = last_is h b q ob in
    least_like (λ x. IsIn x a × (place h x < place h (last h b) + d)) (λ x. IsIn x a × ((y : ℕ) × IsIn y b × (place h x < place h y + d))) _
    (λ x (k, u). (k, (last h b, l.held, u)))
    (λ x (k, u). let (y, m, v) = u in let g : place h y ≤ place h (last h b) = l.greatest y m in (k, omega arith))
    (ahead_least h d (last h b) a p one oa (within h b (last h b) ob l.held))

pub after_some : (h d : ℕ) (a b : Interval) → a.lo ≤ a.hi → b.lo ≤ b.hi → d ≤ 1 → InOrder h a.hi → InOrder h b.hi
    → OnLeast (λ x. IsIn x a × ((y : ℕ) × IsIn y b × (place h y + d ≤ place h x))) (behind h d (first h b) a)
after_some h d a b p q one oa ob =
    let l : IsFirst h b (first h b) = first_is h b q in
    least_like (λ x. IsIn x a × (place h (first h b) + d ≤ place h x)) (λ x. IsIn x a × ((y : ℕ) × IsIn y b × (place h y + d ≤ place h x))) _
    (λ x (k, u). (k, (first h b, l.held, u)))
    (λ x (k, u). let (y, m, v) = u in let g : place h (first h b) ≤ place h y = l.least y m in (k, omega arith))
    (behind_least h d (first h b) a p one oa (within h b (first h b) ob l.held))
