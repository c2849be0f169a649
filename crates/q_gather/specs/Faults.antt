-- The reasons by which refusals are told.
use Rattle.std.specs.Prelude.{ℕ}
use Rattle.reasons.specs.declared.Reason.{Reason}
use Rattle.reasons.specs.declared.Reason.TheVariants as reasons
use Rattle.q_replay.specs.Faults as replay
use Rattle.q_replay.specs.declared.fault.ReplayFault.{ReplayFault}
use Rattle.q_replay.specs.declared.fault.ReplayFault.TheVariants as replay_fault
use Rattle.q_gather.specs.declared.fault.GatherFault.{GatherFault}
use Rattle.q_gather.specs.declared.fault.GatherFault.TheVariants.{Journal, IdUsed, BadFounders, NeverSent, OutOfMemory}

-- the journal at this place is refused
abbrev pub of_replay : ℕ → ReplayFault → GatherFault
of_replay place replay_fault.OutOfMemory = OutOfMemory
of_replay place f = Journal place f

abbrev pub reason : GatherFault → Reason
reason (Journal place fault) = replay.reason fault
reason IdUsed = reasons.IdUsed
reason BadFounders = reasons.BadFounders
reason NeverSent = reasons.NeverSent
reason OutOfMemory = reasons.OutOfMemory
