-- numbered: the bytes of the number that a text spells, as they are stored.
use Rattle.q_script.proofs.operands.numbered.Goals as goal

pub returns-in_default : goal.returns-in_default
returns-in_default c = λ bytes is. c.in_default.ensures is.0 is.1
