-- Reads of lists that were appended to, and answers that were accepted.
use Rattle.std.proofs.Common.{◌≡◌, ◌⊎◌, ℕ, List, [], ◌∷◌, ◌++◌, Some, inl, inr, ⊎_elim, slice_get}
use Rattle.q_desk.proofs.Lists.{get-snoc}
pub use Rattle.q_desk.proofs.Accepted.{same_Some, none-some, get_elsewhere}

pub get_snoc : {X : Type 0} (xs : List X) (y : X) (k : ℕ) (x : X) → slice_get (xs ++ y ∷ []) k ≡ Some x → (slice_get xs k ≡ Some x) ⊎ (y ≡ x)
get_snoc xs y k x h = ⊎_elim (λ a. inl a) (λ b. inr b.1) (get-snoc xs y k x h)
