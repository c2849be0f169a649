-- Prefix codes: no value's bytes begin another's.
use Rattle.std.specs.Prelude.{◌≡◌, ℕ, List, ◌++◌}

-- of legal values, the one that stands in front of bytes is known, and so is what stands behind it
pub record IsPrefixCode {A : Type 0} (bytes_of : A → List ℕ) (Legal : A → Type 0) : Type 0 where
  pub one : (a b : A) (x y : List ℕ) → Legal a → Legal b → bytes_of a ++ x ≡ bytes_of b ++ y → (a ≡ b) × (x ≡ y)

-- the bytes do not begin with those of a legal value
pub record BeginsNone {A : Type 0} (bytes_of : A → List ℕ) (Legal : A → Type 0) (bytes : List ℕ) : Type 0 where
  pub none : (a : A) (more : List ℕ) → Legal a → bytes ≡ bytes_of a ++ more → ⊥
