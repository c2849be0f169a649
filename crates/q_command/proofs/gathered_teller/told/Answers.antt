-- told: what the books tell that gather into this cluster.
use Rattle.std.proofs.Common.{string_bytes}
use Rattle.q_command.proofs.Telling.{all_told}
use Rattle.q_command.proofs.gathered_teller.told.Goals as goal

pub returns : goal.returns
returns c =
    λ gathers. all_told c.every_gathered_answer_is_true.ensures c.args.pairs (string_bytes c.print_pairs_if.new.lines) gathers c.ops.ensures.ops
    c.new-lines.ensures.bytes c.in_ok-print_answers.ensures c.in_ok-print_pairs_if.ensures c.in_ok-push_str.ensures.bytes
