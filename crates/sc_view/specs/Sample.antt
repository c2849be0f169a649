-- Values and views for worked values.
use Rattle.std.specs.Prelude.{ℕ, [], ◌∷◌}
use Rattle.std.specs.FinMap as fin
use Rattle.sc_view.specs.declared.view.Stored.{Stored}
use Rattle.sc_view.specs.Views.{ViewMap}

-- one byte under a number
abbrev pub stored : ℕ → ℕ → Stored
stored number byte = record { number = number; value = byte ∷ [] }

-- the view of node 7 alone
abbrev pub view_of_7 : Stored → ViewMap
view_of_7 e = fin.from_entries ((7, e) ∷ [])
