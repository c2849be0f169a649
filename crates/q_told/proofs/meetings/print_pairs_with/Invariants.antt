use Rattle.std.proofs.Common.{take, string_bytes}
use Rattle.q_told.specs.Printing.{AddsPairs, pairs_with}
use Rattle.q_told.specs.Meetings.{is_told}
use Rattle.q_told.proofs.meetings.print_pairs_with.Given as goal

abbrev pub invariant-loop-collect : goal.invariant-loop-collect
invariant-loop-collect l = AddsPairs (pairs_with (is_told l.pairs) l.store (take l.collect-index l.ops)) (string_bytes l.initial.lines) (string_bytes l.lines)
