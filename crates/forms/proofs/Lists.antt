-- What is among the elements of two lists.
use Rattle.std.proofs.Common.{List, [], ◌∷◌, ◌++◌, ◌⊎◌, inl, inr}
use Rattle.forms.specs.Lists.{Among}

module _ {X : Type 0} (x : X) where
  pub among_left : (xs ys : List X) → Among x xs → Among x (xs ++ ys)
  among_left [] ys a = absurd a
  among_left (z ∷ xs) ys (inl e) = inl e
  among_left (z ∷ xs) ys (inr a) = inr (among_left xs ys a)

  pub among_right : (xs ys : List X) → Among x ys → Among x (xs ++ ys)
  among_right [] ys a = a
  among_right (z ∷ xs) ys a = inr (among_right xs ys a)

  pub among_either : (xs ys : List X) → Among x (xs ++ ys) → Among x xs ⊎ Among x ys
  among_either [] ys a = inr a
  among_either (z ∷ xs) ys (inl e) = inl (inl e)
  among_either (z ∷ xs) ys (inr a) = elim (among_either xs ys a) [ inl l ↦ inl (inr l) | inr r ↦ inr r ]
