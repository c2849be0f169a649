-- The reasons by which refusals are told.
use Rattle.reasons.specs.declared.Reason.{Reason}
use Rattle.reasons.specs.declared.Reason.TheVariants as reasons
use Rattle.sc_members.specs.declared.facts.FactsFault.{FactsFault}
use Rattle.sc_members.specs.declared.facts.FactsFault.TheVariants.{Full, OutOfMemory}

abbrev pub reason : FactsFault → Reason
reason Full = reasons.FactsFull
reason OutOfMemory = reasons.OutOfMemory
