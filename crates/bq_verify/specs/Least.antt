-- What is best about the states: no notes that pass say more, and no text is refused that has notes that pass.
use Rattle.std.specs.Prelude.{◌≡◌, ℕ, List, Option, Some}
use Rattle.bq_insn.specs.declared.insn.Insn.{Insn}
use Rattle.bq_range.specs.Interval.{Interval}
use Rattle.bq_state.specs.Kinds.{StateKinds}
use Rattle.bq_sound.specs.Passes.{note_at, NoteCovers, Passes}

-- each state is covered by the state there of all notes that pass
pub record AreLeast (l : Interval) (text : List Insn) (notes : List (Option StateKinds)) : Type 0 where
  pub each : (others : List (Option StateKinds)) (unit : ℕ) (state : StateKinds) → Passes l text others → note_at notes unit ≡ Some state → NoteCovers others (unit, state)

-- no notes pass
abbrev pub NonePass : Interval → List Insn → Type 0
NonePass l text = (notes : List (Option StateKinds)) → Passes l text notes → ⊥
