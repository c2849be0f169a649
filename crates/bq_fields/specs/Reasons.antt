-- The reasons by which the faults of units are told.
use Rattle.reasons.specs.declared.Reason.{Reason}
use Rattle.reasons.specs.declared.Reason.TheVariants as reasons
use Rattle.bq_fields.specs.declared.fault.UnitFault.{UnitFault}
use Rattle.bq_fields.specs.declared.fault.UnitFault.TheVariants as faults

abbrev pub unit_reason : UnitFault → Reason
unit_reason faults.BadOpcode = reasons.BadOpcode
unit_reason faults.BadRegister = reasons.BadRegister
unit_reason faults.UnusedField = reasons.UnusedField
unit_reason faults.BadField = reasons.BadField
unit_reason faults.CutWide = reasons.CutWide
unit_reason faults.LeftOut = reasons.LeftOut
