-- Notes as lists of states, or of none.
use Rattle.std.proofs.Common.{◌≡◌, ℕ, List, Option, Some, None}
use Rattle.bq_insn.specs.Slots.{insn_at}
use Rattle.bq_insn.specs.declared.insn.Insn.{Insn}
use Rattle.bq_state.specs.Kinds.{StateKinds}
use Rattle.bq_sound.specs.Passes.{note_at}
use Rattle.bq_verify.specs.States.{edges_from, leading_to}

abbrev pub Notes : Type 0
Notes = List (Option StateKinds)

-- the states that one unit brings to another
abbrev pub brought : List Insn → Notes → ℕ → ℕ → List StateKinds
brought text notes from unit = leading_to unit (edges_from from (insn_at text from) (note_at notes from))

pub same_note : (a b : StateKinds) → Some a ≡ Some b → a ≡ b
same_note a b e = cc

pub no_note : (a : StateKinds) → ◌≡◌ {A = Option StateKinds} None (Some a) → ⊥
no_note a e = cc
