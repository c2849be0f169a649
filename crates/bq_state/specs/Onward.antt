-- How control goes on from an instruction, whatever state it leaves.
use Rattle.std.specs.Prelude.{◌≡◌, ℕ, ⊤, [], ◌∷◌}
use Rattle.bq_insn.specs.declared.insn.Insn.{Insn}
use Rattle.bq_insn.specs.declared.insn.Insn.TheVariants as insns
use Rattle.bq_state.specs.Kinds.{StateKinds}
use Rattle.bq_state.specs.Edges.{edges}
use Rattle.bq_state.specs.declared.edges.Onward.{Onward}
use Rattle.bq_state.specs.declared.edges.Onward.TheVariants.{Nowhere, To, Branches}

abbrev pub IsBranch : Insn → Type 0
IsBranch (insns.Branch w r d x offset) = ⊤
IsBranch i = ⊥

-- nowhere: there is no edge; to a unit: the one edge leads there, with the state that the instruction leaves; else the
-- instruction is a branch
abbrev pub IsOnward : Onward → ℕ → Insn → Type 0
IsOnward Nowhere unit i = (state : StateKinds) → edges unit i state ≡ []
IsOnward (To next) unit i = (state : StateKinds) → edges unit i state ≡ (next, state) ∷ []
IsOnward Branches unit i = IsBranch i
