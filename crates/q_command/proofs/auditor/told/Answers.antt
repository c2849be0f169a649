-- told: the lines of the answers that a book records.
use Rattle.std.proofs.Common.{◌∙◌, ◌++◌, ℕ, List, ap, codes}
use Rattle.q_desk.specs.State.{DeskState}
use Rattle.q_command.specs.Audit.{answer_lines}
use Rattle.q_command.proofs.auditor.told.Goals as goal

pub returns-clause-told : goal.returns-clause-told
returns-clause-told c =
    c.in_ok-push_str.ensures.bytes
    ∙ ap (λ (l : List ℕ). l ++ codes "journal ok\n")
    (c.in_ok-print_answers.ensures
    ∙ ap (λ (l : List ℕ). l ++ answer_lines 0 c.queries.result.now) c.new-lines.ensures.bytes
    ∙ ap (answer_lines 0) (c.queries.ensures.queries ∙ ap (λ (d : DeskState). d.queries) c.desk.ensures.desk))
