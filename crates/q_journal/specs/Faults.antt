-- The reasons with which a start is refused, and what faults of below are to a start.
use Rattle.std.specs.Prelude.{ℕ, Option, None}
use Rattle.reasons.specs.declared.Reason.{Reason}
use Rattle.reasons.specs.declared.Reason.TheVariants as reasons
use Rattle.q_outside.specs.declared.files.FileFault.{FileFault}
use Rattle.q_outside.specs.declared.files.FileFault.TheVariants as file
use Rattle.q_replay.specs.Faults.{fault_event as event_of_replay, reason as reason_of_replay}
use Rattle.q_replay.specs.declared.fault.ReplayFault.{ReplayFault}
use Rattle.q_replay.specs.declared.fault.ReplayFault.TheVariants as replay
use Rattle.q_journal.specs.declared.fault.JournalFault.{JournalFault}
use Rattle.q_journal.specs.declared.fault.JournalFault.TheVariants as fault

abbrev pub reason : JournalFault → Reason
reason fault.Failed = reasons.FileFailed
reason fault.BadNote = reasons.FileFailed
reason (fault.Unresumed why) = reasons.FileFailed
reason fault.OtherNode = reasons.BadFounders
reason (fault.Journal f) = reason_of_replay f
reason fault.OutOfMemory = reasons.OutOfMemory

abbrev pub fault_of_file : FileFault → JournalFault
fault_of_file file.Failed = fault.Failed
fault_of_file file.OutOfMemory = fault.OutOfMemory

abbrev pub fault_of_replay : ReplayFault → JournalFault
fault_of_replay replay.OutOfMemory = fault.OutOfMemory
fault_of_replay f = fault.Journal f

-- the event of the journal at which the fault is, the head being event 0
abbrev pub fault_event : JournalFault → Option ℕ
fault_event (fault.Journal f) = event_of_replay f
fault_event f = None
