-- Recorder::record: appends what the file lacks of the book's journal: the head, and entries.
use Rattle.std.proofs.Common.{rules}
use Rattle.std.specs.Prelude.{Ok, Err}
use Rattle.q_kept.specs.declared.fault.Unrecorded.TheVariants.{Failed, OutOfMemory}
use Rattle.q_kept.proofs.Recorded.{recorded_next, whole_next}
use Rattle.q_kept.proofs.recorder.Recorder.record.Goals as goal

-- it was broken before
pub returns-then-self-clause-recorded : goal.returns-then-self-clause-recorded
returns-then-self-clause-recorded g c = λ first b grows i. recorded_next first b _ _ _ (Err Failed) grows i (search rules)

-- memory ran out
pub returns-in_err-bytes-clause-recorded : goal.returns-in_err-bytes-clause-recorded
returns-in_err-bytes-clause-recorded g c = λ first b grows i. recorded_next first b _ _ _ (Err OutOfMemory) grows i (search rules)

-- it breaks
pub returns-in_default-clause-recorded : goal.returns-in_default-clause-recorded
returns-in_default-clause-recorded g c = λ first b grows i. recorded_next first b _ _ _ (Err Failed) grows i (search rules)

-- all is written
pub returns-clause-recorded : goal.returns-clause-recorded
returns-clause-recorded g c = λ first b grows i. recorded_next first b _ _ _ (Ok tt) grows i (search rules)

pub returns-clause-whole : goal.returns-clause-whole
returns-clause-whole g c = λ first b grows i. whole_next first b _ _ _ grows i (search rules) (search rules)
