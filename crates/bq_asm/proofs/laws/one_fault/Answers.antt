-- one_fault: a source has one fault at most, besides want of memory.
use Rattle.bq_asm.proofs.Unique.{one_fault}
use Rattle.bq_asm.proofs.laws.one_fault.Goals as goal

pub returns : goal.returns
returns c = one_fault
