-- written_is_read: what is written of a number is read as that number.
use Rattle.spelling.proofs.Decimal.{natural_decimal}
use Rattle.spelling.proofs.laws.written_is_read.Goals as goal

pub returns : goal.returns
returns c = natural_decimal
