-- Lists that begin others, and places that are found.
use Rattle.std.proofs.Common.{◌≡◌, ℕ, zero, suc, List, [], ◌∷◌, ◌++◌, Some, refl, subst, ◌⊎◌, inl, inr, slice_get}
use Rattle.std.proofs.lemmas.Bool.{cases_eq}
use Rattle.q_history.proofs.Lists.{none-some}

-- one list is the first part of another
abbrev pub IsFront : {X : Type 0} → List X → List X → Type 0
IsFront {X} front whole = (rest : List X) × (whole ≡ front ++ rest)

-- a place that is in a relation to this number is found, or there is none
abbrev pub Found : {X : Type 0} → List X → (ℕ → ℕ → Type 0) → ℕ → Type 0
Found {X} xs R j = ((k : ℕ) × (x : X) × (slice_get xs k ≡ Some x) × R k j) ⊎ ((k : ℕ) (x : X) → slice_get xs k ≡ Some x → R k j → ⊥)

module _ {X : Type 0} (y : X) (ys : List X) (R : ℕ → ℕ → Type 0) (one : (k i j : ℕ) → R k i → R k j → i ≡ j) (j : ℕ) where
  nowhere : (i : ℕ) → R 0 i → (i ≡ j → ⊥) → ((k : ℕ) (x : X) → slice_get ys k ≡ Some x → R (suc k) j → ⊥) → (k : ℕ) (x : X)
      → slice_get (y ∷ ys) k ≡ Some x → R k j → ⊥
  nowhere i r away none zero x h s = away (one 0 i j r s)
  nowhere i r away none (suc k) x h s = none k x h s

  found_by : (i : ℕ) → R 0 i → Found ys (λ k. R (suc k)) j → Found (y ∷ ys) R j
  found_by i r (inl h) = inl (suc h.0, h.1, h.2, h.3)
  found_by i r (inr none) = elim (cases_eq i j) [ inl same ↦ inl (0, y, refl, subst (R 0) same r) | inr away ↦ inr (nowhere i r away none) ]

-- of a relation by which each place has one number
pub find_place : {X : Type 0} (xs : List X) (R : ℕ → ℕ → Type 0) → ((k : ℕ) (x : X) → slice_get xs k ≡ Some x → (j : ℕ) × R k j)
    → ((k i j : ℕ) → R k i → R k j → i ≡ j) → (j : ℕ) → Found xs R j
find_place [] R each one j = inr (λ k x h r. none-some x h)
find_place (y ∷ ys) R each one j =
    let first = each 0 y refl in
    found_by y ys R one j first.0 first.1 (find_place ys (λ k. R (suc k)) (λ k x h. each (suc k) x h) (λ k a b. one (suc k) a b) j)
