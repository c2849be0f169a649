-- spelled_has_no_fault: what spells a message in a version has no fault in it.
use Rattle.sc_msg.proofs.Unique.{spelled_has_no_fault}
use Rattle.sc_msg.proofs.laws.spelled_has_no_fault.Goals as goal

pub returns : goal.returns
returns c = spelled_has_no_fault
