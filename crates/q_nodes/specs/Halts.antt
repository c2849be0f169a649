-- Why no line of a script is told.
use Rattle.std.specs.Prelude.{ℕ, ◌≤◌}
use Rattle.q_nodes.specs.Runs.{IsAstray}
use Rattle.q_nodes.specs.declared.halt.Halt.{Halt}
use Rattle.q_nodes.specs.declared.halt.Halt.TheVariants.{Astray, BadCount}

-- there are not 1 to 16 nodes; or the lock of one of them kept the book of another; of other causes nothing is said
abbrev pub IsHalt : ℕ → Halt → Type 0
IsHalt nodes BadCount = ¬ ((1 ≤ nodes) × (nodes ≤ 16))
IsHalt nodes Astray = IsAstray nodes
IsHalt nodes h = Unit {0}
