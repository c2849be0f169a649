-- passing_has_no_fault: notes that pass have no fault but want of memory.
use Rattle.bq_check.proofs.Once.{only_memory}
use Rattle.bq_check.proofs.laws.passing_has_no_fault.Goals as goal

pub returns : goal.returns
returns c = λ l text notes fault passes first. only_memory l text notes fault first passes
