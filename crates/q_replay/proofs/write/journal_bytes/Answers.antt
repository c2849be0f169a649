-- journal_bytes: the journal of a book as bytes of its version: the only bytes of which `replay` makes this book.
use Rattle.std.proofs.Common.{rules}
use Rattle.q_replay.proofs.Writing.{checked_at}
use Rattle.q_replay.proofs.write.journal_bytes.Goals as goal

pub entry-requires-clause-checked : goal.entry-requires-clause-checked
entry-requires-clause-checked c =
    checked_at c.loop-entry.entry-index c.journal-entry-items.ensures.replay c.journal-entry-items.ensures.journal (search rules) c.entry-item.is
    c.loop-entry.invariant.version
