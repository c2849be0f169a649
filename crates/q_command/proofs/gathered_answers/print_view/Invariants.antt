use Rattle.std.proofs.Common.{◌≡◌, ◌++◌, flat_map, map, string_bytes}
use Rattle.q_command.specs.GatheredLines.{store_text}
use Rattle.q_session.proofs.Records.{shown}
use Rattle.q_command.proofs.gathered_answers.print_view.Given as goal

-- the stores so far are printed
abbrev pub invariant-loop-node : goal.invariant-loop-node
invariant-loop-node l = string_bytes l.lines ≡ string_bytes l.initial.lines ++ flat_map store_text (map shown l.yielded)
