-- Writing goes on by one value.
use Rattle.std.proofs.Common.{◌≡◌, ℕ, ◌+◌, ◌<◌, ◌≤◌, List, [], ◌∷◌, ◌++◌, length, take, get_or, sym, ap, ◌∙◌, append_assoc}
use Rattle.std.specs.List.{flat_map}
use Rattle.std.proofs.lemmas.List.{append-nil, take_more, take_all}
use Rattle.spelling.proofs.Codes.{flat_map_push}

-- the first n of the values were written behind what stood there
pub record Written {A : Type 0} (bytes_of : A → List ℕ) (before : List ℕ) (xs : List A) (n : ℕ) (out : List ℕ) : Type 0 where
  pub parts : out ≡ before ++ flat_map bytes_of (take n xs)

module _ {A : Type 0} (bytes_of : A → List ℕ) (before : List ℕ) (xs : List A) where
  pub written_none : (out : List ℕ) → out ≡ before → Written bytes_of before xs 0 out
  written_none out same = record { parts = same ∙ sym (append-nil before) }

  pub written_more : (n : ℕ) (x : A) (out after : List ℕ) → Written bytes_of before xs n out → n < length xs → x ≡ get_or xs n x
      → after ≡ out ++ bytes_of x → Written bytes_of before xs (n + 1) after
  written_more n x out after w lt at more =
      let t : take (n + 1) xs ≡ take n xs ++ x ∷ [] = take_more xs n x lt ∙ ap (λ (y : A). take n xs ++ y ∷ []) (sym at) in
      let pushed = sym (flat_map_push bytes_of (take n xs) x) ∙ ap (flat_map bytes_of) (sym t) in
      let whole = append_assoc before (flat_map bytes_of (take n xs)) (bytes_of x) ∙ ap (λ l. before ++ l) pushed in
      record { parts = more ∙ ap (λ l. l ++ bytes_of x) w.parts ∙ whole }

  pub written_all : (n : ℕ) (out : List ℕ) → Written bytes_of before xs n out → length xs ≤ n → out ≡ before ++ flat_map bytes_of xs
  written_all n out w all = w.parts ∙ ap (λ l. before ++ flat_map bytes_of l) (take_all n xs all)
