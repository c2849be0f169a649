-- with_command: the command with one more command below it, if there are both.
use Rattle.q_command.proofs.Commands.{below_one_more}
use Rattle.q_command.proofs.words.with_command.Goals as goal

pub returns : goal.returns
returns c = λ app under has low.
    below_one_more c.in-Ok.command c.in-Ok-below.below c.subcommand.result app under c.subcommand.ensures (rw c.in-Ok.is at has) (rw c.in-Ok-below.is at low)
