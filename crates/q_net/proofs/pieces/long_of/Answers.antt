-- long_of: the number of eight bytes.
use Rattle.std.proofs.Common.{rules}
use Rattle.std.proofs.lemmas.Nat.{le_bytes_8}
use Rattle.spelling.specs.Numbers.{number_bytes}
use Rattle.q_net.proofs.pieces.long_of.Goals as goal

pub returns : goal.returns
unfolding number_bytes
returns c = le_bytes_8 c.args.bytes _ (search rules) (search rules) c.from_le_bytes.ensures
