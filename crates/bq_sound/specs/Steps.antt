-- What an instruction does to a machine that a state covers, whose record has len bytes.
use Rattle.std.specs.Prelude.{◌≡◌, ℕ, ◌^◌, ◌<◌, List, length, Some}
use Rattle.bq_flow.specs.Paths.{Among}
use Rattle.bq_meaning.specs.Place.{Place}
use Rattle.bq_meaning.specs.Meaning.{Outcome, Continues, Ends, Faults, held}
use Rattle.bq_meaning.specs.Memory.{MachineState as Machine}
use Rattle.bq_state.specs.Covers.{StateHolds}
use Rattle.bq_state.specs.Kinds.{StateKinds}
use Rattle.bq_sound.specs.Safe.{AreBytes}

-- a machine as the program's types hold it: its registers hold words, its frame and its record bytes
pub record IsMachine (len : ℕ) (m : Machine) : Type 0 where
  pub count : length m.registers ≡ 11
  pub words : (r w : ℕ) → held m.registers r ≡ Some w → w < 2 ^ 64
  pub frame : AreBytes 512 m.frame
  pub «record» : AreBytes len m.record

-- the machine is at the unit of one of the edges, and the edge's state covers it
pub record IsOnEdge (len : ℕ) (p : Place) (edges : List (ℕ × StateKinds)) (m : Machine) : Type 0 where
  pub state : StateKinds
  pub edge : Among (m.unit, state) edges
  pub covers : StateHolds p len state m.registers
  pub whole : IsMachine len m

-- no fault: the machine goes on along one of the edges, or ends with a word
abbrev pub IsCovered : ℕ → Place → List (ℕ × StateKinds) → Outcome → Type 0
IsCovered len p edges (Continues next) = IsOnEdge len p edges next
IsCovered len p edges (Ends answer) = answer < 2 ^ 64
IsCovered len p edges (Faults fault) = ⊥
