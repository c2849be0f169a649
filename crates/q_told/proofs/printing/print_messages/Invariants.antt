use Rattle.std.proofs.Common.{◌≡◌, ◌++◌, string_bytes}
use Rattle.q_told.specs.Printing.{message_lines}
use Rattle.q_told.proofs.printing.print_messages.Given as goal

abbrev pub invariant-loop-offset : goal.invariant-loop-offset
invariant-loop-offset l = string_bytes l.lines ≡ string_bytes l.initial.lines ++ message_lines l.cluster.past.sent l.sent.first l.offset
