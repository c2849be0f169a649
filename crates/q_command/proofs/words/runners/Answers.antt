-- runners: the count of threads that a text spells, if it spells one from 1 to 64.
use Rattle.q_command.proofs.Commands.{no_runners}
use Rattle.q_command.proofs.words.runners.Goals as goal

pub returns-then-count-lt1 : goal.returns-then-count-lt1
returns-then-count-lt1 c = no_runners c.args.text.now c.in_ok-count.count c.in_ok-count.ensures c.then-count-lt1.either
