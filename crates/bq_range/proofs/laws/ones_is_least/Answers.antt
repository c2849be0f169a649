-- ones_is_least: the table's ones of a word are the least 2^k - 1 that is at least the word.
use Rattle.bq_range.proofs.Parts.{least_ones}
use Rattle.bq_range.proofs.laws.ones_is_least.Goals as goal

pub returns : goal.returns
returns c = least_ones
