-- one_first_fault: a text with notes has one first fault at most, want of memory aside.
use Rattle.bq_check.proofs.Once.{one_fault}
use Rattle.bq_check.proofs.laws.one_first_fault.Goals as goal

pub returns : goal.returns
returns c = one_fault
