-- gather_command: the command `gather`.
use Rattle.q_command.proofs.words.gather_command.Goals as goal

pub returns : goal.returns
returns c = c.with_argument.ensures _ _ (c.with_argument-journals.ensures _ _ c.new_command-command.ensures c.operands.ensures) c.flag.ensures
