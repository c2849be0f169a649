-- What taking an event answers, or beginning as a head says.
use Rattle.std.specs.Prelude.{Result, Ok, Err}
use Rattle.bq_check.specs.declared.fault.CheckFault.{CheckFault}
use Rattle.bq_check.specs.declared.fault.CheckFault.TheVariants as check_fault
use Rattle.reasons.specs.declared.Reason.TheVariants as reasons
use Rattle.q_book.specs.State.{BookState}
use Rattle.reasons.specs.declared.Reason.{Reason}
use Rattle.q_replay.specs.Head.{Head}
use Rattle.q_replay.specs.declared.raw_entry.RawEntry.{RawEntry}
use Rattle.q_replay.specs.Replayed.{Begins, Takes}
use Rattle.q_replay.specs.declared.refusal.Refusal.{Refusal}
use Rattle.q_replay.specs.declared.refusal.Refusal.TheVariants.{Mismatch, OutOfMemory}

abbrev pub of_book : Reason → Refusal
of_book reasons.OutOfMemory = OutOfMemory
of_book f = Mismatch

abbrev pub of_check : CheckFault → Refusal
of_check check_fault.OutOfMemory = OutOfMemory
of_check f = Mismatch

-- a book begins as the head says, or none does
abbrev pub Beginning : Head → Result BookState Refusal → Type 0
Beginning h (Ok b) = Begins h b
Beginning h (Err Mismatch) = (b : BookState) → Begins h b → ⊥
Beginning h (Err OutOfMemory) = Unit {0}

-- the event leads to this book, or to none
abbrev pub Taking : BookState → RawEntry → BookState → Result (Unit {0}) Refusal → Type 0
Taking old w new (Ok u) = Takes old w new
Taking old w new (Err Mismatch) = (c : BookState) → Takes old w c → ⊥
Taking old w new (Err OutOfMemory) = Unit {0}
