-- Reads of lists that were appended to or written.
use Rattle.std.proofs.Common.{◌≡◌, ◌≢◌, ◌⊎◌, ℕ, zero, suc, List, [], ◌∷◌, ◌++◌, length, slice_get, slice_set, Some, refl, ap, subst, inl, inr, ⊎_elim}

pub get-snoc : {X : Type 0} (xs : List X) (y : X) (k : ℕ) (x : X) → slice_get (xs ++ y ∷ []) k ≡ Some x
    → (slice_get xs k ≡ Some x) ⊎ ((k ≡ length xs) × (y ≡ x))
get-snoc [] y zero x h = inr (refl, cc)
get-snoc [] y (suc k) x h = absurd (cc)
get-snoc (z ∷ xs) y zero x h = inl h
get-snoc (z ∷ xs) y (suc k) x h = ⊎_elim (λ a. inl a) (λ b. inr (ap suc b.0, b.1)) (get-snoc xs y k x h)

pub get-written : {X : Type 0} (xs : List X) (i : ℕ) (y : X) (k : ℕ) (x : X) → slice_get (slice_set xs i y) k ≡ Some x
    → ((k ≢ i) × (slice_get xs k ≡ Some x)) ⊎ ((k ≡ i) × (y ≡ x))
get-written [] i y k x h = absurd (cc)
get-written (z ∷ xs) zero y zero x h = inr (refl, cc)
get-written (z ∷ xs) zero y (suc k) x h = inl ((λ e. absurd (cc)), h)
get-written (z ∷ xs) (suc i) y zero x h = inl ((λ e. absurd (cc)), h)
get-written (z ∷ xs) (suc i) y (suc k) x h = ⊎_elim (λ a. inl ((λ e. a.0 (cc)), a.1)) (λ b. inr (ap suc b.0, b.1)) (get-written xs i y k x h)

-- what is true of each element, by its place
abbrev pub Each : {X : Type 0} → (X → Type 0) → List X → Type 0
Each {X} P xs = (k : ℕ) (x : X) → slice_get xs k ≡ Some x → P x

pub each-snoc : {X : Type 0} (P : X → Type 0) (xs : List X) (y : X) → Each P xs → P y → Each P (xs ++ y ∷ [])
each-snoc P xs y each new k x h = ⊎_elim (λ a. each k x a) (λ b. subst P b.1 new) (get-snoc xs y k x h)

pub each-written : {X : Type 0} (P : X → Type 0) (xs : List X) (i : ℕ) (y : X) → Each P xs → P y → Each P (slice_set xs i y)
each-written P xs i y each new k x h = ⊎_elim (λ a. each k x a.1) (λ b. subst P b.1 new) (get-written xs i y k x h)

pub get-same : {X : Type 0} (xs : List X) (k : ℕ) (x y : X) → slice_get xs k ≡ Some x → slice_get (slice_set xs k y) k ≡ Some y
get-same [] k x y h = absurd (cc)
get-same (z ∷ xs) zero x y h = refl
get-same (z ∷ xs) (suc k) x y h = get-same xs k x y h
