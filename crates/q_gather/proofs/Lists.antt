-- Reads of a list, and of one that was written.
use Rattle.std.proofs.Common.{◌≡◌, ◌⊎◌, ℕ, zero, suc, List, [], ◌∷◌, map, Some, refl, inl, inr, ⊎_elim, slice_get, slice_set}
use Rattle.std.specs.Prelude.{Contains}
use Rattle.std.proofs.lemmas.Option.{get_or_from_slice_get, slice_get_within}
pub use Rattle.q_desk.proofs.Lists.{get-same, get-written}

-- what stands somewhere is among all
pub get_contains : {X : Type 0} (xs : List X) (k : ℕ) (x : X) → slice_get xs k ≡ Some x → Contains xs x
get_contains xs k x at = (k, slice_get_within xs k x at, get_or_from_slice_get xs k x x at)

-- what stands among the images is the image of what stands there
pub get_map : {X Y : Type 0} (f : X → Y) (xs : List X) (k : ℕ) (y : Y) → slice_get (map f xs) k ≡ Some y → (x : X) × (slice_get xs k ≡ Some x) × (f x ≡ y)
get_map f [] k y h = absurd (cc)
get_map f (x ∷ xs) zero y h = (x, refl, cc)
get_map f (x ∷ xs) (suc k) y h = get_map f xs k y h

-- what stands there stood there, or was written there
pub get_after : {X : Type 0} (xs : List X) (i : ℕ) (y : X) (k : ℕ) (x : X) → slice_get (slice_set xs i y) k ≡ Some x
    → (slice_get xs k ≡ Some x) ⊎ ((k ≡ i) × (y ≡ x))
get_after xs i y k x h = ⊎_elim (λ a. inl a.1) (λ b. inr b) (get-written xs i y k x h)
