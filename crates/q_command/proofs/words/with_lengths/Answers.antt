-- with_lengths: the command, if there is one, with the options `--least` and `--most`.
use Rattle.q_command.proofs.words.with_lengths.Goals as goal

pub returns : goal.returns
returns c = λ app has. c.with_argument.ensures _ _ (c.with_argument-least.ensures app _ has c.option.ensures) c.option-2.ensures
