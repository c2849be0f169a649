-- The lines of a text.
use Rattle.std.specs.Prelude.{◌≡◌, ℕ, suc, ◌==◌, if◌then◌else◌, List, [], ◌∷◌, ◌⊎◌}
use Rattle.std.specs.List.{slice_split}

-- the text without a line feed at its end
abbrev pub without_last_feed : List ℕ → List ℕ
without_last_feed [] = []
without_last_feed (c ∷ []) = if c == 10 then [] else c ∷ []
without_last_feed (c ∷ d ∷ ds) = c ∷ without_last_feed (d ∷ ds)

-- the parts between line feeds
abbrev pub parts_of : List ℕ → List (List ℕ)
parts_of text = slice_split (λ c. c == 10) text

-- The lines of a text, of which the last may end without a line feed. An empty text is one empty line.
abbrev pub lines_of : List ℕ → List (List ℕ)
lines_of source = parts_of (without_last_feed source)

-- n is the number, counted from 1, of the least of these lines that is P, where so many lines stand before them
abbrev pub IsFirst : (ℕ → List ℕ → Type 0) → ℕ → List (List ℕ) → ℕ → Type 0
IsFirst P before [] n = ⊥
IsFirst P before (line ∷ after) n = (P before line × (n ≡ suc before)) ⊎ ((P before line → ⊥) × IsFirst P (suc before) after n)
