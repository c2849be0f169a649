-- What a table of labels keeps.
use Rattle.std.specs.Prelude.{◌≡◌, ℕ, ◌-◌, ◌≤◌, List, Some, None, MatchOption}
use Rattle.std.specs.Str.{bytes_eq}
use Rattle.std.specs.HashMap.{HashMap, get_by}
use Rattle.bq_asm.specs.Statement.{Line}
use Rattle.bq_asm.specs.Labels.{units_before}
use denote.Ref.{Bor}

-- Among these lines, which have so many units, each name is first defined before as many as the table says.
abbrev pub IsPlaced : {S : Type 0} → HashMap (Bor (List ℕ)) ℕ S → ℕ → List Line → Type 0
IsPlaced labels total lines = (q : Bor (List ℕ)) → MatchOption (get_by (λ k. bytes_eq q.now k.now) labels)
    (units_before q.now lines ≡ None)
    (λ behind. (behind ≤ total) × (units_before q.now lines ≡ Some (total - behind)))
