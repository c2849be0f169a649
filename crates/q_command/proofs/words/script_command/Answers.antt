-- script_command: a command `NAME SCRIPT`, with the flag `--strict`.
use Rattle.q_command.proofs.words.script_command.Goals as goal

pub returns : goal.returns
returns c = c.with_argument.ensures _ _ c.file_command-file.ensures c.flag.ensures
