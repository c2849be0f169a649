-- Of which refusals a person is told something.
use Rattle.std.specs.Prelude.{◌≢◌, ◌==◌, List, ℕ, Bool, true, false, Option, Some, None, IsUtf8}
use Rattle.reasons.specs.Table.{number}
use Rattle.q_told.specs.Refusal.{reason}
use Rattle.q_told.specs.declared.refusal.Refusal.{Refusal}
use Rattle.q_told.specs.declared.refusal.Refusal.TheVariants.{FileFailed, Script, Fraction, Cluster}

-- The refusal of these bytes is none for want of memory; and where a file failed, it is for bytes that are no text.
abbrev pub IsExplained : Refusal → List ℕ → Type 0
IsExplained FileFailed bytes = ¬ (IsUtf8 bytes)
IsExplained refusal bytes = number (reason refusal) ≢ 99

-- the answer tells whether this is so
abbrev pub Meets : Bool → Type 0 → Type 0
Meets true P = P
Meets false P = ¬ P

-- something is told exactly of the refusals that are explained
abbrev pub IsToldOf : {X : Type 0} → Refusal → List ℕ → Option X → Type 0
IsToldOf refusal bytes (Some told) = IsExplained refusal bytes
IsToldOf refusal bytes None = ¬ (IsExplained refusal bytes)

-- Whether `cluster` refuses its script for this, and not what its nodes come to: the file is no text, a line is of no
-- form, a fraction is none, or the founders are none (49).
abbrev pub is_of_nodes : Refusal → Bool
is_of_nodes FileFailed = true
is_of_nodes (Script f) = true
is_of_nodes (Fraction f) = true
is_of_nodes (Cluster f) = number (reason (Cluster f)) == 49
is_of_nodes refusal = false
