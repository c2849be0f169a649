-- entries_bytes: the entries of a book's journal behind the first so many: none where it has no more.
use Rattle.std.proofs.Common.{◌∙◌, ap, drop, List}
use Rattle.q_desk.specs.declared.journal.Entry.{Entry}
use Rattle.q_replay.specs.Writing.{JournalBytes}
use Rattle.q_replay.proofs.Writing.{behind-checked}
use Rattle.q_replay.proofs.bytes.entries_bytes.Goals as goal

pub write_entries-requires-clause-checked : goal.write_entries-requires-clause-checked
write_entries-requires-clause-checked c =
    behind-checked c.args.book.now c.args.first c.behind.result.now c.new-writer.result.version c.journal.ensures.replay
    (c.behind.ensures ∙ ap (λ (es : List Entry). drop c.args.first es) c.journal.ensures.journal)
    (ap (λ (j : JournalBytes). j.version) c.new-writer.ensures ∙ c.version.ensures)
