-- The reasons by which refusals of notes are told.
use Rattle.std.specs.Prelude.{ℕ, Option, Some, None}
use Rattle.reasons.specs.declared.Reason.{Reason}
use Rattle.reasons.specs.declared.Reason.TheVariants as reasons
use Rattle.bq_flow.specs.Faults.{rule_reason}
use Rattle.bq_flow.specs.declared.fault.FlowFault.{FlowFault}
use Rattle.bq_flow.specs.declared.fault.FlowFault.TheVariants as flows
use Rattle.bq_state.specs.Reasons as rules
use Rattle.bq_check.specs.declared.fault.CheckFault.{CheckFault}
use Rattle.bq_check.specs.declared.fault.CheckFault.TheVariants as faults
use Rattle.bq_check.specs.declared.fault.NotesFault.{NotesFault}
use Rattle.bq_check.specs.declared.fault.NotesFault.TheVariants as notes

abbrev pub notes_reason : NotesFault → Reason
notes_reason notes.NoteForm = reasons.NoteForm
notes_reason notes.OutOfMemory = reasons.OutOfMemory

abbrev pub reason : CheckFault → Reason
reason faults.WrongCount = reasons.WrongCount
reason (faults.Flow unit rule) = rule_reason rule
reason (faults.NoteForm unit) = reasons.NoteForm
reason faults.Entry = reasons.Entry
reason (faults.Rule unit rule) = rules.reason rule
reason (faults.NotCovered unit) = reasons.NotCovered
reason faults.OutOfMemory = reasons.OutOfMemory

-- the unit that a fault names
abbrev pub fault_unit : CheckFault → Option ℕ
fault_unit faults.WrongCount = None
fault_unit (faults.Flow unit rule) = Some unit
fault_unit (faults.NoteForm unit) = Some unit
fault_unit faults.Entry = None
fault_unit (faults.Rule unit rule) = Some unit
fault_unit (faults.NotCovered unit) = Some unit
fault_unit faults.OutOfMemory = None

-- a fault of the flow
abbrev pub flow_refusal : FlowFault → CheckFault
flow_refusal (flows.At unit rule) = faults.Flow unit rule
flow_refusal flows.OutOfMemory = faults.OutOfMemory
