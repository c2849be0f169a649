-- one_run: from an accumulator, a record and a frame there is one record run at most at a placement.
use Rattle.bq_meaning.specs.Runs.{entry_machine}
use Rattle.bq_meaning.proofs.Once.{same_end}
use Rattle.bq_meaning.proofs.laws.one_run.Goals as goal

pub returns : goal.returns
returns c = λ p text acc bytes frame n answer m other after left h i.
    same_end p text n m (entry_machine p acc bytes frame) answer other after left h.runs i.runs
