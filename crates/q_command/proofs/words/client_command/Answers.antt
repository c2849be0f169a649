-- client_command: the command `client`.
use Rattle.q_command.proofs.words.client_command.Goals as goal

pub returns : goal.returns
returns c = c.with_argument.ensures _ _ (c.with_argument-script.ensures _ _ c.file_command-place.ensures c.operand.ensures) c.flag.ensures
