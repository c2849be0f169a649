use Rattle.std.proofs.Common.{take, string_bytes}
use Rattle.std.specs.Prelude.{flat_map}
use Rattle.q_told.specs.Printing.{AddsPairs, pairs_with}
use Rattle.q_told.specs.Meetings.{is_told}
use Rattle.q_told.proofs.meetings.print_pairs_by.Given as goal

abbrev pub invariant-loop-store : goal.invariant-loop-store
invariant-loop-store l =
    AddsPairs (flat_map (λ s. pairs_with (is_told l.pairs) s l.ops) (take l.store-index l.ops)) (string_bytes l.initial.lines) (string_bytes l.lines)
