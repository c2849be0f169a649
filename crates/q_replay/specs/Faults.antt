-- The reasons by which refusals are told.
use Rattle.std.specs.Prelude.{ℕ, Option, Some, None}
use Rattle.reasons.specs.declared.Reason.{Reason}
use Rattle.reasons.specs.declared.Reason.TheVariants as reasons
use Rattle.q_replay.specs.declared.fault.ReplayFault.{ReplayFault}
use Rattle.q_replay.specs.declared.fault.ReplayFault.TheVariants.{Form, Mismatch, OutOfMemory}

abbrev pub reason : ReplayFault → Reason
reason (Form event) = reasons.JournalForm
reason (Mismatch event) = reasons.JournalMismatch
reason OutOfMemory = reasons.OutOfMemory

-- the faulty event
abbrev pub fault_event : ReplayFault → Option ℕ
fault_event (Form event) = Some event
fault_event (Mismatch event) = Some event
fault_event OutOfMemory = None
