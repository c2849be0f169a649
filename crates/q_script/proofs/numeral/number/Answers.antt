-- number: the number below 2^64 that a text spells in decimal, with no zero in front of other digits and no sign.
use Rattle.q_script.proofs.Numbers.{reads_as}
use Rattle.q_script.proofs.numeral.number.Goals as goal

pub returns : goal.returns
returns c = reads_as c.args.text.now c.natural.result c.natural.ensures
