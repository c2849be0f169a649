-- The edges of an instruction are its two ways on: the one to a unit behind, and then the jump.
use Rattle.std.proofs.Common.{◌≡◌, ℕ, ◌++◌, true, false, refl}
use Rattle.bq_insn.specs.declared.insn.Insn.{Insn}
use Rattle.bq_insn.specs.declared.insn.Insn.TheVariants as insns
use Rattle.bq_state.specs.Kinds.{StateKinds}
use Rattle.bq_state.specs.Edges.{edges}
use Rattle.bq_state.specs.InPlace.{way}

pub both_ways : (unit : ℕ) (i : Insn) (state : StateKinds) → edges unit i state ≡ way unit i false state ++ way unit i true state
both_ways unit (insns.Branch w r d x offset) state = refl
both_ways unit i state = refl
