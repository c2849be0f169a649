-- How lists of steps merge into one, where each step may want a message and gives some: a step goes once what it wants
-- was given.
use Rattle.std.specs.Prelude.{◌≡◌, ℕ, List, [], ◌∷◌, ◌++◌, All, Contains, slice_get, slice_set, Option, Some, IfSome}

pub record Step (M : Type 0) : Type 0 where
  pub wants : Option M
  pub gives : List M

-- it wants nothing, or what was given
abbrev pub CanGo : {M : Type 0} → List M → Step M → Type 0
CanGo given s = IfSome s.wants (Contains given)

abbrev pub AreOver : {M : Type 0} → List (List (Step M)) → Type 0
AreOver lists = All (λ steps. steps ≡ []) lists

-- From where these messages were given, the steps of all lists can be taken in some order that keeps each list's own.
pub data Merges (M : Type 0) : List M → List (List (Step M)) → Type 0 where
  Over : {given : List M} {lists : List (List (Step M))} → AreOver lists → Merges M given lists
  -- the first step of a list goes, and gives
  Takes : {given : List M} {lists : List (List (Step M))} (k : ℕ) (s : Step M) (rest : List (Step M)) → slice_get lists k ≡ Some (s ∷ rest) → CanGo given s
      → Merges M (given ++ s.gives) (slice_set lists k rest) → Merges M given lists
