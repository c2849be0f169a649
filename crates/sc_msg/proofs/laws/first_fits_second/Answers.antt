-- first_fits_second: what can be written in the first version can be written in the second.
use Rattle.sc_msg.proofs.Lengths.{first_fits_second}
use Rattle.sc_msg.proofs.laws.first_fits_second.Goals as goal

pub returns : goal.returns
returns c = first_fits_second
