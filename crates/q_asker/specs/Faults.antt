-- The reasons by which it is told that there is no reply.
use Rattle.reasons.specs.declared.Reason.{Reason}
use Rattle.reasons.specs.declared.Reason.TheVariants as reasons
use Rattle.q_asker.specs.declared.connection.ExchangeFault.{ExchangeFault}
use Rattle.q_asker.specs.declared.connection.ExchangeFault.TheVariants as fault

abbrev pub reason : ExchangeFault → Reason
reason fault.Unsent = reasons.TransportFailed
reason fault.Unheard = reasons.TransportFailed
reason fault.NoReply = reasons.TransportFailed
reason fault.OutOfMemory = reasons.OutOfMemory
