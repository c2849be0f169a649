use Rattle.std.proofs.Common.{◌≡◌, ◌++◌, take, flat_map, string_bytes}
use Rattle.q_command.specs.GatheredLines.{book_lines}
use Rattle.q_command.proofs.gathered_answers.print_answers.Given as goal

-- the answers of the books so far are printed
abbrev pub invariant-loop-book : goal.invariant-loop-book
invariant-loop-book l = string_bytes l.lines ≡ string_bytes l.initial.lines ++ flat_map book_lines (take l.book-index l.books)
