use Rattle.std.proofs.Common.{◌≡◌, ◌++◌, take, string_bytes}
use Rattle.q_command.specs.GatheredLines.{answer_lines}
use Rattle.q_command.proofs.gathered_answers.print_queries.Given as goal

-- the answers of the queries so far are printed
abbrev pub invariant-loop-number : goal.invariant-loop-number
invariant-loop-number l = string_bytes l.lines ≡ string_bytes l.initial.lines ++ answer_lines l.node 0 (take l.number l.queries)
