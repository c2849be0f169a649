-- What is true of each certificate that the checker gives.
use Rattle.bq_insn.specs.Slots.{IsText}
use Rattle.bq_flow.specs.Paths.{IsLongest}
use Rattle.bq_state.specs.Kinds.{AreLengths}
use Rattle.bq_sound.specs.Passes.{Passes}
use Rattle.bq_check.specs.Certificate.{Certificate}

-- a legal text, its notes pass for records of these lengths, and that is the longest path
pub record IsCertified (c : Certificate) : Type 0 where
  pub legal : IsText c.text
  pub lengths : AreLengths c.lengths
  pub passes : Passes c.lengths c.text c.notes
  pub longest : IsLongest c.text c.longest
