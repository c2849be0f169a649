-- That the test for bytes that are too few for an event is right.
use Rattle.std.proofs.Common.{◌≡◌, ℕ, ◌<◌, ◌^◌, Bool, true, false, inl, inr, List, ◌∷◌, ◌++◌, length, refl, sym, ap, ◌∙◌, nat_lt, MatchBool, arith}
use Rattle.std.proofs.lemmas.Bool.{ltb-true, ltb-false}
use Rattle.spelling.specs.Numbers.{number_bytes}
use Rattle.spelling.proofs.Codes.{number_front, number_then}
use Rattle.q_beginning.specs.Beginning.{IsCut}

told_by : (b : Bool) (P Q : Type 0) → (b ≡ true → P) → (b ≡ false → Q) → MatchBool b P Q
told_by true P Q p q = p refl
told_by false P Q p q = q refl

tails : (x y : ℕ) (xs ys : List ℕ) → x ∷ xs ≡ y ∷ ys → xs ≡ ys
tails x y xs ys h = cc

-- a body that is as long as is told, or longer
pub whole : (bytes rest body : List ℕ) (kind told : ℕ) → bytes ≡ kind ∷ rest → rest ≡ number_bytes 4 told ++ body → told < 2 ^ 32
    → (length body < told → ⊥) → IsCut bytes → ⊥
whole bytes rest body kind told first second fits long (inl short) =
    omega (arith, short, ap length first, number_then 4 told rest body second)
whole bytes rest body kind told first second fits long (inr c) =
    let (other, n, left, parts, few, short) = c in
    let same = number_front 4 told n body left fits few (sym second ∙ tails kind other rest (number_bytes 4 n ++ left) (sym first ∙ parts)) in
    long (omega (arith, short, same.0, ap length same.1))

pub cut_told : (bytes rest body : List ℕ) (kind told : ℕ) → bytes ≡ kind ∷ rest → rest ≡ number_bytes 4 told ++ body → told < 2 ^ 32
    → MatchBool (nat_lt (length body) told) (IsCut bytes) (IsCut bytes → ⊥)
cut_told bytes rest body kind told first second fits =
    told_by (nat_lt (length body) told) (IsCut bytes) (IsCut bytes → ⊥)
    (λ is. inr (kind, told, body, first ∙ ap (λ (x : List ℕ). kind ∷ x) second, fits, ltb-true (length body) told is))
    (λ is. whole bytes rest body kind told first second fits (λ short. omega (arith, ltb-false (length body) told is, short)))
