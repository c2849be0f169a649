-- The reasons by which refusals are told.
use Rattle.reasons.specs.declared.Reason.{Reason}
use Rattle.reasons.specs.declared.Reason.TheVariants as reasons
use Rattle.sc_view.specs.declared.view.ViewFault.{ViewFault}
use Rattle.sc_view.specs.declared.view.ViewFault.TheVariants.{Full, OutOfMemory}
use Rattle.sc_view.specs.declared.value.ValueFault.{ValueFault}
use Rattle.sc_view.specs.declared.value.ValueFault.TheVariants.{BadValue}

abbrev pub reason : ViewFault → Reason
reason Full = reasons.ViewFull
reason OutOfMemory = reasons.OutOfMemory

abbrev pub value_reason : ValueFault → Reason
value_reason BadValue = reasons.BadValue
