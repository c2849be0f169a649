-- with_bytes: the command, if there is one, with the flag `--bytes`.
use Rattle.q_command.proofs.words.with_bytes.Goals as goal

pub returns : goal.returns
returns c = λ app has. c.with_argument.ensures app _ has c.flag.ensures
