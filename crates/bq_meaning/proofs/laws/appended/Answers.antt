-- appended: a fold over records and then a record run over one more is a fold over them all: what a loop over
-- records keeps.
use Rattle.bq_meaning.proofs.Folding.{one_more}
use Rattle.bq_meaning.proofs.laws.appended.Goals as goal

pub returns : goal.returns
returns c = one_more
