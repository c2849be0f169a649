-- The least line of a kind, found from the front or from the back.
use Rattle.std.proofs.Common.{◌≡◌, ℕ, ◌+◌, ◌<◌, List, [], ◌∷◌, ◌++◌, length, map, take, drop, get_or, refl, ap, sym, ◌∙◌, inl, inr, arith, length-append}
use Rattle.std.proofs.lemmas.List.{map_more, drop_more, length-map, length-take}
use Rattle.bq_asm.specs.Labels.{NoLine, IsFirstLine}

-- what holds of the lines behind these holds of all
pub record Going {A : Type 0} (P : List A → A → List A → Type 0) (all before after : List A) : Type 0 where
  pub none : NoLine P before after → NoLine P [] all
  pub first : (n : ℕ) → IsFirstLine P before after n → IsFirstLine P [] all n

module _ {A : Type 0} {P : List A → A → List A → Type 0} {all : List A} where
  pub going_start : Going P all [] all
  going_start = record { none = λ h. h; first = λ n h. h }

  pub going_on : {before : List A} {x : A} {after : List A} → (P before x after → ⊥) → Going P all before (x ∷ after) → Going P all (before ++ x ∷ []) after
  going_on n g = record { none = λ h. g.none (n, h); first = λ k h. g.first k (inr (n, h)) }

  pub going_found : {before : List A} {x : A} {after : List A} → P before x after → Going P all before (x ∷ after) → IsFirstLine P [] all (length before + 1)
  going_found {before} h g = g.first (length before + 1) (inl (h, refl))

  pub going_end : {before : List A} → Going P all before [] → NoLine P [] all
  going_end g = g.none tt

pub first_above : {A : Type 0} (P : List A → A → List A → Type 0) (before lines : List A) (n : ℕ) → IsFirstLine P before lines n → length before < n
first_above P before [] n f = absurd f
first_above P before (line ∷ lines) n (inl f) = omega (arith, f.1)
first_above P before (line ∷ lines) n (inr f) = omega (arith, first_above P (before ++ line ∷ []) lines n f.1, length-append before (line ∷ []))

-- the element at a place, in a view of the list
pub record At {A B : Type 0} (f : A → B) (xs : List A) (i : ℕ) (x : A) : Type 0 where
  pub rest : map f (drop i xs) ≡ f x ∷ map f (drop (i + 1) xs)
  pub front : map f (take (i + 1) xs) ≡ map f (take i xs) ++ f x ∷ []
  pub len : length (map f (take i xs)) ≡ i

pub at : {A B : Type 0} (f : A → B) (xs : List A) (i : ℕ) (x : A) → i < length xs → x ≡ get_or xs i x → At f xs i x
at f xs i x l e = record {
  rest = ap (map f) (drop_more xs i x l) ∙ ap (λ y. f y ∷ map f (drop (i + 1) xs)) (sym e);
  front = map_more f xs i x l ∙ ap (λ y. map f (take i xs) ++ f y ∷ []) (sym e);
  len = simp (length-map, length-take) (omega arith);
}
