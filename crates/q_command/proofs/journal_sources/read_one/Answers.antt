-- read_one: reads a file, prints its line, and answers the book of the longest journal that it begins with.
use Rattle.std.proofs.Common.{inl, string_bytes}
use Rattle.q_command.proofs.Reading.{read_on, unread_on}
use Rattle.q_command.specs.JournalFiles.{longest_journal}
use Rattle.q_command.proofs.journal_sources.read_one.Goals as goal

pub returns-in-Ok-clause-read : goal.returns-in-Ok-clause-read
returns-in-Ok-clause-read g c =
    read_on (g.F.Files.read_gives longest_journal) c.args.files.now c.read.new.self c.args.name.now c.in-Ok.bytes.items c.deref.result.now
    c.in-Ok.ensures.bytes c.deref.ensures.value (string_bytes c.args.lines.now) (string_bytes c.take_one.new.lines) c.take_one.result c.take_one.ensures.begins

pub returns-in-Ok-clause-refused : goal.returns-in-Ok-clause-refused
returns-in-Ok-clause-refused g c =
    unread_on (g.F.Files.read_gives longest_journal) c.args.files.now c.read.new.self c.args.name.now c.in-Ok.bytes.items c.deref.result.now
    c.in-Ok.ensures.bytes c.deref.ensures.value c.take_one.result c.take_one.ensures.refused

pub returns-in-Err-clause-refused : goal.returns-in-Err-clause-refused
returns-in-Err-clause-refused g c = inl (inl (c.in-Err.fault, c.in-Err.ensures.bytes, c.from.ensures))
