-- The longest paths from each unit.
use Rattle.std.specs.Prelude.{◌≡◌, ℕ, ◌+◌, ◌<◌, ◌≤◌, List, length, Some, slice_index}
use Rattle.bq_insn.specs.Slots.{units, insn_at}
use Rattle.bq_insn.specs.declared.insn.Insn.{Insn}
use Rattle.bq_flow.specs.Paths.{Path}

-- the greatest number of instructions on a path from a unit to an exit
pub record IsLongestFrom (text : List Insn) (unit longest : ℕ) : Type 0 where
  pub reached : Path text unit longest
  pub bound : (n : ℕ) → Path text unit n → n ≤ longest

-- for each unit at or behind `from` where an instruction begins, the longest path from it
pub record IsTable (text : List Insn) (table : List ℕ) (from : ℕ) : Type 0 where
  pub count : length table ≡ units text
  pub longest : (unit : ℕ) (i : Insn) → from ≤ unit → insn_at text unit ≡ Some i → IsLongestFrom text unit (slice_index table unit)
  pub small : (unit : ℕ) → from ≤ unit → unit < units text → slice_index table unit + unit ≤ units text
