use Rattle.std.proofs.Common.{map, take, string_bytes}
use Rattle.q_command.specs.JournalFiles.{AreSources, longest_journal}
use Rattle.q_command.proofs.journal_sources.read_all.Given as goal

-- the files so far were read
abbrev pub invariant-loop-name : goal.invariant-loop-name
invariant-loop-name g l = AreSources (g.F.Files.read_gives longest_journal) (map (λ name. name.now) (take l.name-index l.names)) l.initial.files
    (string_bytes l.lines) l.books.items l.files
