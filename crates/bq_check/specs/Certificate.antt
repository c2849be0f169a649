-- What a certificate holds.
use Rattle.std.specs.Prelude.{ℕ, List, Option}
use Rattle.bq_insn.specs.declared.insn.Insn.{Insn}
use Rattle.bq_range.specs.Interval.{Interval}
use Rattle.bq_state.specs.Kinds.{StateKinds}

-- a text, its notes, the lengths that records may have, and the greatest number of instructions on a path
pub record Certificate : Type 0 where
  pub text : List Insn
  pub notes : List (Option StateKinds)
  pub lengths : Interval
  pub longest : ℕ
