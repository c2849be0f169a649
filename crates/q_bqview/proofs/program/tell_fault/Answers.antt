-- tell_fault: says why no command runs: the exit status.
use Rattle.q_bqview.proofs.As.{explained_as}
use Rattle.q_bqview.proofs.program.tell_fault.Goals as goal

pub returns-in-Help : goal.returns-in-Help
returns-in-Help g c = explained_as c.args.fault.now _ _ _ _ c.in-Help.is c.put_help.ensures

pub returns-in-OutOfMemory : goal.returns-in-OutOfMemory
returns-in-OutOfMemory g c = explained_as c.args.fault.now _ _ _ _ c.in-OutOfMemory.is c.put_memory.ensures
