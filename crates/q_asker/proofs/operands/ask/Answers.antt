-- ask: the line `ask` with these two numbers.
use Rattle.q_asker.proofs.Scripts.{no_ask}
use Rattle.q_asker.proofs.operands.ask.Goals as goal

pub returns-in-None : goal.returns-in-None
returns-in-None c = no_ask c.args.text.now c.in-None.ensures
