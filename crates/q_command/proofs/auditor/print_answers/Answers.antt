-- print_answers: prints the recorded answers of queries, by their numbers.
use Rattle.std.proofs.Common.{rules, ℕ, refl, string_bytes}
use Rattle.std.proofs.lemmas.List.{take_more, length-take}
use Rattle.q_session.specs.declared.query.Query.{Query}
use Rattle.q_desk.specs.Desks.{answer_in}
use Rattle.q_command.specs.Audit.{answer_line, answer_lines}
use Rattle.q_command.proofs.Answering.{more_answers}
use Rattle.q_command.proofs.auditor.print_answers.Goals as goal

pub loop-number-preserved : goal.loop-number-preserved
loop-number-preserved c =
    more_answers (λ (n : ℕ) (q : Query). answer_line n (answer_in q.phase)) answer_lines (λ n. refl) (λ n q qs. refl) c.args.queries.now c.loop-number.number
    c.index-queries-number.result (string_bytes c.args.lines.now) (search (rules, take_more)) (search (rules, length-take))
    c.loop-number.invariant c.in_ok-print_answer.ensures
