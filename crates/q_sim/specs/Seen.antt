-- The program's own view of a cluster that a script runs.
use Rattle.std.specs.Prelude.{◌≡◌, ℕ, List, ◌++◌, string_bytes}
use Rattle.q_sim.specs.Simulates.{SimState}
use Rattle.q_sim.specs.declared.simulation.Simulation.{Simulation}

abbrev pub seen : Simulation → SimState
seen s = record { cluster = s.cluster; nodes = s.nodes.items; delivered = s.delivered; unsaved = s.unsaved; line = s.line; faults = s.faults.items }

-- it does that, and what it prints stands behind what was printed
abbrev pub Prints : (SimState → List ℕ → SimState → Type 0) → Simulation → Simulation → Type 0
Prints does old new = (text : List ℕ) × does (seen old) text (seen new) × (string_bytes new.lines ≡ string_bytes old.lines ++ text)

-- the same over files that stand thus before and after
abbrev pub PrintsOver : {F : Type 0} → (SimState → F → List ℕ → SimState → F → Type 0) → Simulation → F → Simulation → F → Type 0
PrintsOver does old before new after =
    (text : List ℕ) × does (seen old) before text (seen new) after
    × (string_bytes new.lines ≡ string_bytes old.lines ++ text)
