-- one_fault: in a version bytes have one fault at most, besides want of memory.
use Rattle.sc_msg.proofs.Unique.{one_fault}
use Rattle.sc_msg.proofs.laws.one_fault.Goals as goal

pub returns : goal.returns
returns c = one_fault
