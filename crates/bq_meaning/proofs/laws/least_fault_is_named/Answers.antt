-- least_fault_is_named: an instruction's fault is the one with the least number of those that hold of it.
use Rattle.bq_meaning.proofs.Least.{least_fault}
use Rattle.bq_meaning.proofs.laws.least_fault_is_named.Goals as goal

pub returns : goal.returns
returns c = least_fault
