-- The reasons by which failures of transports are told.
use Rattle.reasons.specs.declared.Reason.{Reason}
use Rattle.reasons.specs.declared.Reason.TheVariants as reasons
use Rattle.q_outside.specs.declared.fault.TransportFault.{TransportFault}
use Rattle.q_outside.specs.declared.fault.TransportFault.TheVariants as fault

abbrev pub reason : TransportFault → Reason
reason fault.Failed = reasons.TransportFailed
reason fault.OutOfMemory = reasons.OutOfMemory
