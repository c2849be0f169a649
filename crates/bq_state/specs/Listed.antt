-- Edges as a list.
use Rattle.std.specs.Prelude.{ℕ, List, [], ◌∷◌, ◌++◌, Option, Some, None}
use Rattle.bq_state.specs.Kinds.{StateKinds}
use Rattle.bq_state.specs.declared.edges.Edge.{Edge}
use Rattle.bq_state.specs.declared.edges.Edges.{Edges}

abbrev pub edge_list : Option Edge → List (ℕ × StateKinds)
edge_list None = []
edge_list (Some e) = (e.unit, e.state) ∷ []

-- the edge to the unit behind comes first
abbrev pub listed : Edges → List (ℕ × StateKinds)
listed e = edge_list e.behind ++ edge_list e.jump
