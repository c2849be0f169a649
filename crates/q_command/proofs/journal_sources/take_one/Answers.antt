-- take_one: the same of the bytes that were read.
use Rattle.std.proofs.Common.{inl, refl, string_bytes}
use Rattle.q_command.proofs.Reading.{one_source}
use Rattle.q_command.proofs.journal_sources.take_one.Goals as goal

pub returns-in-Ok-print_journal-clause-begins : goal.returns-in-Ok-print_journal-clause-begins
returns-in-Ok-print_journal-clause-begins g c =
    one_source c.args.name.now c.args.bytes.now c.in-Ok.journal.kept c.in-Ok.journal.book (string_bytes c.args.lines.now)
    (string_bytes c.print_journal.new.lines) c.in-Ok.ensures.begins c.in-Ok.ensures.within c.in-Ok-print_journal.ensures

pub returns-in-Err-clause-refused : goal.returns-in-Err-clause-refused
returns-in-Err-clause-refused g c = inl (c.in-Err.fault, c.in-Err.ensures.refused, refl)
