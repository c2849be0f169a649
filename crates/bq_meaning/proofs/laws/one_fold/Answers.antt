-- one_fold: over records in turn there is one outcome at most at a placement.
use Rattle.bq_meaning.proofs.Folding.{same_fold}
use Rattle.bq_meaning.proofs.laws.one_fold.Goals as goal

pub returns : goal.returns
returns c = same_fold
