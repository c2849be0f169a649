use Rattle.std.proofs.Common.{◌≡◌, take}
use Rattle.q_replay.specs.Writing.{with_more}
use Rattle.q_replay.specs.Journal.{entries_bytes}
use Rattle.q_replay.proofs.bytes.write_entries.Given as goal

-- the first so many are written
abbrev pub invariant-loop-entry : goal.invariant-loop-entry
invariant-loop-entry l = l.writer ≡ with_more l.initial.writer (entries_bytes l.initial.writer.version (take l.entry-index l.entries))
