-- Elements of a mapped list, and of the lists that a function gives for each number below a bound.
use Rattle.std.proofs.Common.{◌≡◌, ℕ, zero, suc, ◌<◌, List, [], ◌∷◌, ◌++◌, map, Some, refl, sym, ap, subst, slice_get, inl, inr, arith}
use Rattle.std.specs.List.{flat_map}
use Rattle.std.proofs.lemmas.Bool.{cases_lt}
use Rattle.std.proofs.lemmas.Grind.{flat_map-append}
use Rattle.forms.specs.Lists.{Among}
use Rattle.forms.proofs.Lists.{among_left, among_right, among_either}
use Rattle.q_held.specs.Resumed.{numbers_below}

module _ {X Y : Type 0} (f : X → Y) where
  pub among_map : (xs : List X) (y : Y) → Among y (map f xs) → (x : X) × Among x xs × (f x ≡ y)
  among_map [] y a = absurd a
  among_map (x ∷ xs) y (inl e) = (x, inl refl, sym e)
  among_map (x ∷ xs) y (inr a) = let b = among_map xs y a in (b.0, inr b.1, b.2)

  pub map_among : (xs : List X) (x : X) → Among x xs → Among (f x) (map f xs)
  map_among (z ∷ xs) x (inl e) = inl (ap f e)
  map_among (z ∷ xs) x (inr a) = inr (map_among xs x a)
  map_among [] x a = absurd a

pub among_place : {X : Type 0} (xs : List X) (x : X) → Among x xs → (k : ℕ) × (slice_get xs k ≡ Some x)
among_place [] x a = absurd a
among_place (y ∷ xs) x (inl e) = (0, ap Some (sym e))
among_place (y ∷ xs) x (inr a) = let p = among_place xs x a in (suc p.0, p.1)

module _ {X : Type 0} (f : ℕ → List X) (x : X) where
  abbrev given_below : ℕ → List X
  given_below n = flat_map f (numbers_below n)

  -- the list of the next number is appended
  given_next : (n : ℕ) → given_below (suc n) ≡ given_below n ++ (f n ++ [])
  given_next n = flat_map-append f (numbers_below n) (n ∷ [])

  one_of : (n : ℕ) → Among x (f n ++ []) → Among x (f n)
  one_of n a = elim (among_either x (f n) [] a) [ inl l ↦ l | inr r ↦ absurd r ]

  -- an element is in the list of one of the numbers
  pub giver : (n : ℕ) → Among x (flat_map f (numbers_below n)) → (k : ℕ) × (k < n) × Among x (f k)
  giver zero a = absurd a
  giver (suc n) a =
      elim (among_either x (given_below n) (f n ++ []) (subst (Among x) (given_next n) a)) [
        | inl l ↦ let g = giver n l in (g.0, omega (arith, g.1), g.2)
        | inr r ↦ (n, omega arith, one_of n r)
      ]

  -- an element of the list of one number is an element of the whole
  pub gives_among : (n k : ℕ) → k < n → Among x (f k) → Among x (flat_map f (numbers_below n))
  gives_among zero k lt a = absurd (omega (arith, lt))
  gives_among (suc n) k lt a = subst (Among x) (sym (given_next n)) (elim (cases_lt k n) [
    | inl l ↦ among_left x (given_below n) (f n ++ []) (gives_among n k l a)
    | inr g ↦
        let same : k ≡ n = omega (arith, lt, g) in
        among_right x (given_below n) (f n ++ []) (among_left x (f n) [] (subst (λ (i : ℕ). Among x (f i)) same a))
  ])
