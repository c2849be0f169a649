-- rows_are_monotone: every row of the tables is monotone: smaller ranges in, smaller ranges out.
use Rattle.bq_range.proofs.Parts as parts
use Rattle.bq_range.proofs.laws.rows_are_monotone.Goals as goal

pub returns : goal.returns
returns c = parts.rows_are_monotone
