-- with_argument: the command, if there is one, with one more argument.
use Rattle.q_command.proofs.Commands.{with_one_more}
use Rattle.q_command.proofs.words.with_argument.Goals as goal

pub returns : goal.returns
returns c = λ app rule has is. with_one_more c.in-Ok.command c.args.argument c.arg.result app rule c.arg.ensures is.0 is.1 (rw c.in-Ok.is at has)
