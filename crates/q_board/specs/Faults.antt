-- The reasons by which it is told why no board is opened.
use Rattle.reasons.specs.declared.Reason.{Reason}
use Rattle.reasons.specs.declared.Reason.TheVariants as reasons
use Rattle.q_board.specs.declared.fault.OpenFault.{OpenFault}
use Rattle.q_board.specs.declared.fault.OpenFault.TheVariants as fault

abbrev pub reason : OpenFault → Reason
reason fault.BadCount = reasons.BadCount
reason fault.OutOfMemory = reasons.OutOfMemory
