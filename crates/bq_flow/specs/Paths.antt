-- Legal flow, and paths from the first unit to an exit.
use Rattle.std.specs.Prelude.{◌≡◌, ◌⊎◌, ℕ, zero, suc, ℤ, pos, ◌<◌, ◌≤◌, List, Some}
pub use Rattle.forms.specs.Lists.{Among}
use Rattle.bq_insn.specs.Slots.{insn_at}
use Rattle.bq_insn.specs.declared.insn.Insn.{Insn}
use Rattle.bq_insn.specs.declared.insn.Insn.TheVariants.{Exit}
use Rattle.bq_flow.specs.Successors.{successors}

-- a unit behind this one where an instruction begins
pub record IsForward (text : List Insn) (unit : ℕ) (place : ℤ) : Type 0 where
  pub next : ℕ
  pub is : place ≡ pos next
  pub forward : unit < next
  pub insn : Insn
  pub begins : insn_at text next ≡ Some insn

-- each successor of each instruction, reachable or not, lies forward, in the text and at an instruction's start
pub record IsLegalFlow (text : List Insn) : Type 0 where
  pub each : (unit : ℕ) (i : Insn) (place : ℤ) → insn_at text unit ≡ Some i → Among place (successors unit i) → IsForward text unit place

-- a path of n instructions from a unit along successors to an exit
abbrev pub Path : List Insn → ℕ → ℕ → Type 0
Path text unit zero = ⊥
Path text unit (suc n) =
    ((n ≡ 0) × (insn_at text unit ≡ Some Exit))
    ⊎ ((i : Insn) × (next : ℕ) × (insn_at text unit ≡ Some i) × Among (pos next) (successors unit i) × Path text next n)

-- the greatest number of instructions on a path from the first unit to an exit
pub record IsLongest (text : List Insn) (longest : ℕ) : Type 0 where
  pub reached : Path text 0 longest
  pub bound : (n : ℕ) → Path text 0 n → n ≤ longest
