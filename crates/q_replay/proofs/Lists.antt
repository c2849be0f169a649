-- Reads of lists that were appended to or written, and answers that were accepted.
use Rattle.std.proofs.Common.{◌≡◌, ◌≢◌, ◌≤◌, ℕ, length, arith, List, [], ◌∷◌, refl}
pub use Rattle.spelling.proofs.Codes.{all_push}
pub use Rattle.q_desk.proofs.Lists.{get-same}
pub use Rattle.q_desk.proofs.Accepted.{same_Some, none-some, same_answer, no_refusal}

pub no_cons : (x : ℕ) (xs : List ℕ) → [] ≡ x ∷ xs → ⊥
no_cons x xs h = absurd (cc)

pub some_long : (xs : List ℕ) → xs ≢ [] → 1 ≤ length xs
some_long [] h = absurd (h refl)
some_long (x ∷ xs) h = omega arith

pub none_long : (xs : List ℕ) → length xs ≡ 0 → xs ≡ []
none_long [] h = refl
none_long (x ∷ xs) h = absurd (omega arith)
