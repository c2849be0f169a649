-- A state that is changed in place, and what the call answers.
use Rattle.std.specs.Prelude.{ℕ, ◌+◌, Bool, List, [], ◌∷◌, Option, Some, None, Result, Ok, Err, if◌then◌else◌}
use Rattle.bq_insn.specs.declared.insn.Insn.{Insn}
use Rattle.bq_insn.specs.declared.insn.Insn.TheVariants as insns
use Rattle.bq_meaning.specs.Meaning.{target}
use Rattle.bq_state.specs.Kinds.{StateKinds}
use Rattle.bq_state.specs.Edges.{along, refined}
use Rattle.bq_state.specs.declared.rule.Rule.{Rule}

-- the state, or the rule that was broken
abbrev pub became : Result (Unit {0}) Rule → StateKinds → Result StateKinds Rule
became (Ok done) state = Ok state
became (Err rule) state = Err rule

-- the state, where an edge is feasible
abbrev pub where_feasible : Bool → StateKinds → Option StateKinds
where_feasible feasible state = if feasible then Some state else None

-- the state at the unit where a way leads, if it leads anywhere
abbrev pub arrived : Option ℕ → StateKinds → List (ℕ × StateKinds)
arrived None state = []
arrived (Some unit) state = (unit, state) ∷ []

-- one of the two ways on from an instruction, where it is feasible: that of its jump, or that to a unit behind
abbrev pub way : ℕ → Insn → Bool → StateKinds → List (ℕ × StateKinds)
way unit (insns.Jump offset) jumps state = if jumps then (target unit offset, state) ∷ [] else []
way unit (insns.JumpFar distance) jumps state = if jumps then (target unit distance, state) ∷ [] else []
way unit (insns.Branch w r d x offset) jumps state = along (if jumps then target unit offset else unit + 1) (refined state w r jumps d x)
way unit insns.Exit jumps state = []
way unit (insns.Wide d v) jumps state = if jumps then [] else (unit + 2, state) ∷ []
way unit i jumps state = if jumps then [] else (unit + 1, state) ∷ []
