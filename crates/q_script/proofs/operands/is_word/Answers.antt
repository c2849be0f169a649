-- is_word: one byte at least, and no space.
use Rattle.q_script.proofs.Events.{no_word}
use Rattle.q_script.proofs.operands.is_word.Goals as goal

pub returns-in-Some : goal.returns-in-Some
returns-in-Some c = no_word c.args.text.now _ _ c.in-Some.ensures
