-- Texts cut at a character, byte by byte.
use Rattle.std.proofs.Common.{◌≡◌, ◌≢◌, ℕ, ◌<◌, false, eqb, List, [], ◌∷◌, ◌++◌, length, get_or, Option, Some, None, refl, ap, sym, ◌∙◌, arith, Bor}
use Rattle.std.specs.Prelude.{unwrap_or, MatchOption}
use Rattle.std.specs.List.{All, slice_split}
use Rattle.std.proofs.lemmas.Bool.{cond-false, eq-eqb, ne_eqb}
use Rattle.std.proofs.lemmas.List.{append_cancel_left, length-append}
use Rattle.std.proofs.lemmas.List.Elements.{All-from_recursion, recursion_from_All, All-from_get_or}
use Rattle.std.proofs.lemmas.List.Splits.{slice_split_none, slice_split_at}
use Rattle.spelling.proofs.Lists.{all_append, all_wider}
use Rattle.q_script.specs.Words.{Lacks}
use Rattle.q_script.specs.Lines.{without_last_feed}

lacks_from : (c : ℕ) (s : List ℕ) → ((i : ℕ) → i < length s → get_or s i 0 ≢ c) → Lacks c s
lacks_from c s h = recursion_from_All _ s (All-from_get_or (λ d. d ≢ c) s 0 h)

pub lacks_append : (c : ℕ) (a b : List ℕ) → Lacks c a → Lacks c b → Lacks c (a ++ b)
lacks_append c a b = all_append (λ d. d ≢ c) a b

pub parts_are : (c : ℕ) (s : List ℕ) (r : Option (Bor (List ℕ) × Bor (List ℕ)))
    → MatchOption r ((i : ℕ) → i < length s → get_or s i 0 ≢ c) (λ x. (s ≡ x.0.now ++ (c ∷ x.1.now)) × ((i : ℕ) → i < length x.0.now → get_or x.0.now i 0 ≢ c))
    → MatchOption r (Lacks c s) (λ p. Lacks c p.0.now × (s ≡ p.0.now ++ (c ∷ p.1.now)))
parts_are c s None h = lacks_from c s h
parts_are c s (Some x) h = (lacks_from c x.0.now h.1, h.0)

-- ---- the parts between characters c

fails : (c : ℕ) (s : List ℕ) → Lacks c s → All (λ d. eqb d c ≡ false) s
fails c s h = All-from_recursion _ s (all_wider (λ d. eqb d c ≡ false) (λ d other. ne_eqb d c other) s h)

pub one_part : (c : ℕ) (s : List ℕ) → Lacks c s → slice_split (λ d. eqb d c) s ≡ s ∷ []
one_part c s h = slice_split_none _ s (fails c s h)

pub first_part : (c : ℕ) (xs ys : List ℕ) → Lacks c xs → slice_split (λ d. eqb d c) (xs ++ (c ∷ ys)) ≡ xs ∷ slice_split (λ d. eqb d c) ys
first_part c xs ys h = slice_split_at _ xs c ys (fails c xs h) (eq-eqb c c refl)

-- the text is a, the first c, and b
abbrev pub IsCut : ℕ → List ℕ → List ℕ → List ℕ → Type 0
IsCut c s a b = Lacks c a × (s ≡ a ++ (c ∷ b))

parts_of_cut : (c : ℕ) (s a b : List ℕ) → IsCut c s a b → slice_split (λ d. eqb d c) s ≡ a ∷ slice_split (λ d. eqb d c) b
parts_of_cut c s a b h = ap (slice_split (λ d. eqb d c)) h.1 ∙ first_part c a b h.0

pub same_lines : {x y : List ℕ} {xs ys : List (List ℕ)} → x ∷ xs ≡ y ∷ ys → (x ≡ y) × (xs ≡ ys)
same_lines e = (cc, cc)

-- a text is cut in one way
pub cut_once : (c : ℕ) (s a b xs ys : List ℕ) → IsCut c s a b → IsCut c s xs ys → (a ≡ xs) × (b ≡ ys)
cut_once c s a b xs ys h k =
    let first : a ≡ xs = (same_lines (sym (parts_of_cut c s a b h) ∙ parts_of_cut c s xs ys k)).0 in
    let rest : c ∷ b ≡ c ∷ ys = append_cancel_left xs (c ∷ b) (c ∷ ys) (ap (λ (l : List ℕ). l ++ (c ∷ b)) (sym first) ∙ sym h.1 ∙ k.1) in
    (first, cc)

pub never_cut : (c : ℕ) (s xs ys : List ℕ) → Lacks c s → IsCut c s xs ys → ⊥
never_cut c s xs ys h k =
    let all : s ≡ xs = (same_lines (sym (one_part c s h) ∙ parts_of_cut c s xs ys k)).0 in
    omega (arith, ap length all, ap length k.1, length-append xs (c ∷ ys))

-- ---- a line feed at the end

feed_none : (s : List ℕ) → ((front : List ℕ) → s ≢ front ++ (10 ∷ [])) → without_last_feed s ≡ s
feed_none [] h = refl
feed_none (c ∷ []) h = cond-false (eqb c 10) _ _ (ne_eqb c 10 (λ e. h [] (ap (λ (x : ℕ). x ∷ []) e)))
feed_none (c ∷ d ∷ ds) h = ap (λ x. c ∷ x) (feed_none (d ∷ ds) (λ front e. h (c ∷ front) (ap (λ (xs : List ℕ). c ∷ xs) e)))

feed_some : (t : List ℕ) → without_last_feed (t ++ (10 ∷ [])) ≡ t
feed_some [] = refl
feed_some (c ∷ []) = refl
feed_some (c ∷ d ∷ ds) = ap (λ x. c ∷ x) (feed_some (d ∷ ds))

pub feed_is : (s : List ℕ) (d : Bor (List ℕ)) (r : Option (Bor (List ℕ))) → d.now ≡ s
    → MatchOption r ((front : List ℕ) → s ≢ front ++ (10 ∷ [])) (λ x. s ≡ x.now ++ (10 ∷ [])) → (unwrap_or r d).now ≡ without_last_feed s
feed_is s d None e h = e ∙ sym (feed_none s h)
feed_is s d (Some x) e h = sym (ap without_last_feed h ∙ feed_some x.now)
