-- Numbers as they are written, and what it is to read a text.
use Rattle.std.specs.Prelude.{◌≡◌, ◌≢◌, ℕ, ◌^◌, ◌<◌, List, ◌∷◌, ◌++◌, Option, Some, None}
use Rattle.std.specs.List.{AllByRecursion}
use Rattle.std.specs.Fmt.{decimal}

-- What is read is what the text spells, and nothing is read only where the text spells nothing.
abbrev pub Reads : {X : Type 0} → (List ℕ → X → Type 0) → List ℕ → Option X → Type 0
Reads spells text (Some x) = spells text x
Reads {X} spells text None = (x : X) → spells text x → ⊥

-- c is not among the bytes
abbrev pub Lacks : ℕ → List ℕ → Type 0
Lacks c text = AllByRecursion (λ d. d ≢ c) text

-- a number below 2^64, in decimal, with no zero in front of other digits and no sign
abbrev pub IsNumeral : List ℕ → ℕ → Type 0
IsNumeral text n = (n < 2 ^ 64) × (text ≡ decimal n)

-- a number, this character, and the rest
abbrev pub IsFollowed : ℕ → List ℕ → ℕ × List ℕ → Type 0
IsFollowed between text p = (p.0 < 2 ^ 64) × (text ≡ decimal p.0 ++ (between ∷ p.1))

-- two numbers with this character between
abbrev pub IsPair : ℕ → List ℕ → ℕ × ℕ → Type 0
IsPair between text p = (p.0 < 2 ^ 64) × (p.1 < 2 ^ 64) × (text ≡ decimal p.0 ++ (between ∷ decimal p.1))
