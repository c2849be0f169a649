-- one_longest: a text has one longest path length at most.
use Rattle.bq_flow.proofs.Best.{one_longest}
use Rattle.bq_flow.proofs.laws.one_longest.Goals as goal

pub returns : goal.returns
returns c = one_longest
