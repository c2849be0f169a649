-- file_command: a command with one operand, the name of a file.
use Rattle.q_command.proofs.words.file_command.Goals as goal

pub returns : goal.returns
returns c = c.with_argument.ensures _ _ c.new_command-command.ensures c.operand.ensures
