use Rattle.q_replay.proofs.Writing.{IsWrittenTo}
use Rattle.q_replay.proofs.write.journal_bytes.Given as goal

abbrev pub invariant-loop-entry : goal.invariant-loop-entry
invariant-loop-entry l = IsWrittenTo l.book l.entry-items l.entry-index l.writer
