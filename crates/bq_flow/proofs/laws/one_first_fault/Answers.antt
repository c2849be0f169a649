-- one_first_fault: a text's flow has one first fault at most.
use Rattle.bq_flow.proofs.Legal.{one_first}
use Rattle.bq_flow.proofs.laws.one_first_fault.Goals as goal

pub returns : goal.returns
returns c = one_first
