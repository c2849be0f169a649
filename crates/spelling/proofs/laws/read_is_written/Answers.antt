-- read_is_written: a number is read of nothing but what is written of it.
use Rattle.spelling.proofs.Decimal.{natural_sound}
use Rattle.spelling.proofs.laws.read_is_written.Goals as goal

pub returns : goal.returns
returns c = natural_sound
