-- The flow of a text as the program's types hold it.
use Rattle.std.specs.Prelude.{◌≡◌, ℕ, ℤ, pos, ◌<◌, List, [], ◌∷◌, Option, Some, None, if◌then◌else◌}
use Rattle.bq_insn.specs.Slots.{units, insn_at}
use Rattle.bq_insn.specs.declared.insn.Insn.{Insn}
use Rattle.bq_flow.specs.declared.successors.Successors.{Successors}
use Rattle.bq_flow.specs.declared.successors.Successors.TheVariants as nexts
use Rattle.bq_flow.specs.Successors.{successors, falls_through, next_unit, destination, unit_of}
use Rattle.bq_flow.specs.Paths.{IsLegalFlow, IsLongest}

-- a text and its longest path
pub record TextFlow : Type 0 where
  pub text : List Insn
  pub longest : ℕ

-- the flow is legal, and that is the longest path
pub record IsFlow (flow : TextFlow) : Type 0 where
  pub legal : IsLegalFlow flow.text
  pub longest : IsLongest flow.text flow.longest

-- ---- the successors of a unit

-- the unit behind an instruction, if control may go on there
abbrev pub unit_behind : ℕ → Insn → Option ℕ
unit_behind unit i = if falls_through i then Some (next_unit unit i) else None

-- the unit where a jump by a distance leads, if there is a jump and it leads to one
abbrev pub unit_jumped_to : ℕ → Option ℤ → Option ℕ
unit_jumped_to unit None = None
unit_jumped_to unit (Some d) = unit_of (destination unit d)

abbrev pub place_of : Option ℕ → List ℤ
place_of None = []
place_of (Some n) = pos n ∷ []

-- those of the instruction that begins at a unit, if one does
abbrev pub successors_of : ℕ → Option Insn → List ℤ
successors_of unit None = []
successors_of unit (Some i) = successors unit i

abbrev pub successors_at : List Insn → ℕ → List ℤ
successors_at text unit = successors_of unit (insn_at text unit)

-- the places that a value names
abbrev pub places : Successors → List ℤ
places nexts.None = []
places (nexts.One a) = pos a ∷ []
places (nexts.Two a b) = pos a ∷ pos b ∷ []

-- a unit behind this one, in the text and at an instruction's start
pub record IsNext (text : List Insn) (unit next : ℕ) : Type 0 where
  pub forward : unit < next
  pub within : next < units text
  pub insn : Insn
  pub begins : insn_at text next ≡ Some insn

abbrev pub AreNext : List Insn → ℕ → Successors → Type 0
AreNext text unit nexts.None = Unit {0}
AreNext text unit (nexts.One a) = IsNext text unit a
AreNext text unit (nexts.Two a b) = IsNext text unit a × IsNext text unit b
