-- print_queries: prints the recorded answers of a node's queries, by their numbers.
use Rattle.std.proofs.Common.{rules, ℕ, refl, string_bytes}
use Rattle.std.proofs.lemmas.List.{take_more, length-take}
use Rattle.q_session.specs.declared.query.Query.{Query}
use Rattle.q_command.specs.GatheredLines.{answer_line, answer_lines}
use Rattle.q_command.proofs.Answering.{more_answers}
use Rattle.q_command.proofs.gathered_answers.print_queries.Goals as goal

pub loop-number-preserved : goal.loop-number-preserved
loop-number-preserved c =
    more_answers (λ (n : ℕ) (q : Query). answer_line c.args.node n q.phase) (answer_lines c.args.node) (λ n. refl) (λ n q qs. refl) c.args.queries.now
    c.loop-number.number c.index-queries-number.result (string_bytes c.args.lines.now) (search (rules, take_more)) (search (rules, length-take))
    c.loop-number.invariant c.in_ok-print_answer.ensures
