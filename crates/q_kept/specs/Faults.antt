-- The reasons by which failures of recorders are told.
use Rattle.reasons.specs.declared.Reason.{Reason}
use Rattle.reasons.specs.declared.Reason.TheVariants as reasons
use Rattle.q_kept.specs.declared.fault.Unrecorded.{Unrecorded}
use Rattle.q_kept.specs.declared.fault.Unrecorded.TheVariants as fault

abbrev pub reason : Unrecorded → Reason
reason fault.Failed = reasons.FileFailed
reason fault.OutOfMemory = reasons.OutOfMemory
