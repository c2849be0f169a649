-- A fact that is known of each value of a list once all were read.
use Rattle.std.proofs.Common.{◌≡◌, ℕ, ◌+◌, ◌<◌, ◌≤◌, List, [], ◌∷◌, ◌++◌, length, take, get_or, sym, ap, subst, ◌∙◌}
use Rattle.std.specs.List.{AllByRecursion}
use Rattle.std.proofs.lemmas.List.{take_more, take_all}
use Rattle.spelling.proofs.Codes.{all_push}

-- it is known of the first n values
pub record Seen {A : Type 0} (P : A → Type 0) (xs : List A) (n : ℕ) : Type 0 where
  pub each : AllByRecursion P (take n xs)

module _ {A : Type 0} (P : A → Type 0) (xs : List A) where
  pub seen_more : (n : ℕ) (x : A) → Seen P xs n → n < length xs → x ≡ get_or xs n x → P x → Seen P xs (n + 1)
  seen_more n x k l at p =
      let t : take (n + 1) xs ≡ take n xs ++ x ∷ [] = take_more xs n x l ∙ ap (λ (y : A). take n xs ++ y ∷ []) (sym at) in
      record { each = subst (AllByRecursion P) (sym t) (all_push P (take n xs) x k.each p) }

  pub seen_all : (n : ℕ) → Seen P xs n → length xs ≤ n → AllByRecursion P xs
  seen_all n k all = subst (AllByRecursion P) (take_all n xs all) k.each
