-- The lines that tell a refusal and a missing answer, and what a writer took of lines when it failed.
use Rattle.std.specs.Prelude.{ℕ, List, [], ◌∷◌, ◌++◌, codes, Option}
use Rattle.std.specs.Fmt.{decimal}
use Rattle.std.specs.Io.KnownBytes.{Appends}
use Rattle.reasons.specs.Table.{number, name}
use Rattle.reasons.specs.declared.Reason.{Reason}
use Rattle.q_told.specs.Refusal.{place_text}
use Rattle.q_told.specs.declared.refusal.RefusalPlace.{RefusalPlace}

-- `refused N Name`, then ` at U` or ` line L`, and the line's end
abbrev pub line_of : Reason → RefusalPlace → List ℕ
line_of reason place =
    (codes "refused " ++ (decimal (number reason) ++ (32 ∷ (name reason ++ place_text place)))) ++ 10 ∷ []

-- a writer took some bytes more, and lost none that it held
abbrev pub TakesPart : Option (List ℕ) → Option (List ℕ) → Type 0
TakesPart before after = (part : List ℕ) × Appends before after part

-- what is told of a call whose answer did not come
abbrev pub unanswered_line : List ℕ
unanswered_line = codes "unanswered\n"
