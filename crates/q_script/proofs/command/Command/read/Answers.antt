-- Command::read: the command with this word, where there is one.
use Rattle.q_script.proofs.Commands.{command_judged}
use Rattle.q_script.proofs.command.Command.read.Goals as goal

pub returns : goal.returns
returns c = command_judged c.args.word.now c.find.result c.find.ensures
