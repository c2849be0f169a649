-- Entries in rising id order: an id each, and what is known under it.
use Rattle.std.specs.Prelude.{◌≡◌, ℕ, suc, ◌≤◌, ◌<◌, nat_le, nat_lt, ◌==◌, Bool, true, false, cond, length, List, [], ◌∷◌, Option, Some, None}
use Rattle.std.specs.Ordering.{nat_cmp}
use Rattle.std.specs.FinMap.Entries.{put}

-- how many entries stand before the first that has this id or a larger one
abbrev pub before : {X : Type 0} → ℕ → List (ℕ × X) → ℕ
before id [] = 0
before id (e ∷ es) = cond (nat_le id e.0) 0 (suc (before id es))

-- the entries without the first, if it has this id
abbrev pub without_first : {X : Type 0} → ℕ → List (ℕ × X) → List (ℕ × X)
without_first id [] = []
without_first id (e ∷ es) = cond (e.0 == id) es (e ∷ es)

-- the entries from an id on
abbrev pub from : {X : Type 0} → ℕ → List (ℕ × X) → List (ℕ × X)
from id [] = []
from id (e ∷ es) = cond (nat_le id e.0) (e ∷ es) (from id es)

-- what a chunk has once it was asked to learn an entry in place, by whether it did
abbrev pub Learns : {X : Type 0} → ℕ → X → List (ℕ × X) → List (ℕ × X) → Bool → Type 0
Learns id x old new true = (new ≡ put nat_cmp id x old) × (length new ≤ 32)
Learns id x old new false = new ≡ old

-- whether a number is larger than what is known
abbrev pub is_larger : Option ℕ → ℕ → Bool
is_larger None n = true
is_larger (Some known) n = nat_lt known n

-- all ids are larger
abbrev pub Over : {X : Type 0} → ℕ → List (ℕ × X) → Type 0
Over id [] = Unit {0}
Over id (e ∷ es) = (id < e.0) × Over id es

-- all ids are smaller
abbrev pub Under : {X : Type 0} → ℕ → List (ℕ × X) → Type 0
Under id [] = Unit {0}
Under id (e ∷ es) = (e.0 < id) × Under id es

-- the ids rise
abbrev pub Rises : {X : Type 0} → List (ℕ × X) → Type 0
Rises [] = Unit {0}
Rises (e ∷ es) = Over e.0 es × Rises es
