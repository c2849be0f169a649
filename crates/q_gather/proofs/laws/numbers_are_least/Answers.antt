-- numbers_are_least: a law: where each message that is sent gets its number as it is sent, if it has none, each has
-- its least number.
use Rattle.sc_msg.specs.declared.version.Version.TheVariants.{Second}
use Rattle.q_gather.proofs.NumberFinding.{no_numbers, numbers_on}
use Rattle.q_gather.proofs.laws.numbers_are_least.Goals as goal

pub returns : goal.returns
returns c = record {
  none = no_numbers;
  next = λ sent numbers m are legal. numbers_on (c.one_spelling.ensures Second) sent numbers are m legal;
}
