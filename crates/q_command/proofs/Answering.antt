-- The lines of answers, by the numbers of their queries.
use Rattle.std.proofs.Common.{◌≡◌, ℕ, ◌+◌, suc, List, [], ◌∷◌, ◌++◌, length, take, ap, ◌∙◌, sym, arith, append_assoc, append-nil}

-- of what each query has its line under its own number
module _ {X : Type 0} (line : ℕ → X → List ℕ) (lines : ℕ → List X → List ℕ) (none : (first : ℕ) → lines first [] ≡ [])
    (some : (first : ℕ) (x : X) (xs : List X) → lines first (x ∷ xs) ≡ line first x ++ lines (suc first) xs) where
  one_more : (xs : List X) (first : ℕ) (x : X) → lines first (xs ++ x ∷ []) ≡ lines first xs ++ line (first + length xs) x
  one_more [] first x =
      some first x [] ∙ ap (λ t. line first x ++ t) (none (suc first)) ∙ append-nil (line first x)
      ∙ ap (λ n. line n x) (let e : first ≡ first + 0 = omega arith in e) ∙ ap (λ t. t ++ line (first + 0) x) (sym (none first))
  one_more (y ∷ xs) first x =
      some first y (xs ++ x ∷ []) ∙ ap (λ t. line first y ++ t) (one_more xs (suc first) x)
      ∙ sym (append_assoc (line first y) (lines (suc first) xs) (line (suc first + length xs) x))
      ∙ ap (λ n. (line first y ++ lines (suc first) xs) ++ line n x) (let e : suc first + length xs ≡ first + suc (length xs) = omega arith in e)
      ∙ ap (λ t. t ++ line (first + suc (length xs)) x) (sym (some first y xs))

  -- the answers of the first queries, and of one more
  pub more_answers : {before after : List ℕ} (xs : List X) (number : ℕ) (x : X) (text : List ℕ) → take (number + 1) xs ≡ take number xs ++ x ∷ []
      → length (take number xs) ≡ number → before ≡ text ++ lines 0 (take number xs) → after ≡ before ++ line number x
      → after ≡ text ++ lines 0 (take (number + 1) xs)
  more_answers xs number x text one count so_far grown =
      grown ∙ ap (λ t. t ++ line number x) so_far ∙ append_assoc text (lines 0 (take number xs)) (line number x)
      ∙ ap (λ n. text ++ (lines 0 (take number xs) ++ line n x)) (let e : number ≡ 0 + length (take number xs) = omega (arith, count) in e)
      ∙ ap (λ t. text ++ t) (sym (one_more (take number xs) 0 x) ∙ ap (lines 0) (sym one))
