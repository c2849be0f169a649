-- What holds of each element of a list, and a list about one of its elements.
use Rattle.std.proofs.Common.{◌≡◌, ℕ, ◌+◌, ◌<◌, Bool, true, false, cond, List, [], ◌∷◌, ◌++◌, length, get_or, take, drop, sym, ap, ◌∙◌}
use Rattle.std.specs.Prelude.{Result, Ok, Err}
use Rattle.std.specs.Result.{is_ok, is_err}
use Rattle.std.specs.List.{AllByRecursion, list_all}
use Rattle.std.proofs.lemmas.List.{take-append-drop, drop_more}
use Rattle.std.proofs.lemmas.List.Elements.{recursion_from_All}
use Rattle.std.proofs.lemmas.List.Sums.{AllPass-from_list_all}

module _ {A : Type 0} (P : A → Type 0) where
  pub all_append : (xs ys : List A) → AllByRecursion P xs → AllByRecursion P ys → AllByRecursion P (xs ++ ys)
  all_append [] ys h k = k
  all_append (x ∷ xs) ys h k = (h.0, all_append xs ys h.1 k)

  -- what each element has, of which something else holds
  pub all_wider : {Q : A → Type 0} → ((x : A) → Q x → P x) → (xs : List A) → AllByRecursion Q xs → AllByRecursion P xs
  all_wider each [] h = tt
  all_wider each (x ∷ xs) h = (each x h.0, all_wider each xs h.1)

  -- what each element has that passes a test
  pub all_passed : (test : A → Bool) → ((x : A) → test x ≡ true → P x) → (xs : List A) → list_all test xs ≡ true → AllByRecursion P xs
  all_passed test each xs h = recursion_from_All P xs (λ i d less. each _ (AllPass-from_list_all test xs h i d less))

-- what stands before an element, the element, and what stands behind it
pub pieces_at : {A : Type 0} (all front : List A) (i : ℕ) (x : A) → front ≡ take i all → i < length all → x ≡ get_or all i x
    → all ≡ front ++ (x ∷ drop (i + 1) all)
pieces_at all front i x f l e =
    sym (take-append-drop i all) ∙ ap (λ u. take i all ++ u) (drop_more all i x l) ∙ (λ j. sym f j ++ (sym e j ∷ drop (i + 1) all))

-- what was pushed is the last
pub pushed : {A E : Type 0} (items new : List A) (x : A) (r : Result (Unit {0}) E) → new ≡ cond (is_ok r) (items ++ x ∷ []) items → is_err r ≡ false
    → new ≡ items ++ x ∷ []
pushed items new x (Ok u) e f = e
pushed items new x (Err d) e f = absurd cc
