-- one_fault: but for want of memory, one thing is first wrong with a text that spells no file.
use Rattle.q_script.proofs.Refusals as law
use Rattle.q_script.proofs.laws.one_fault.Goals as goal

pub returns : goal.returns
returns c = law.one_fault
