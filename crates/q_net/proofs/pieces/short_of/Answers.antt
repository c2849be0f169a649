-- short_of: the number of four bytes.
use Rattle.std.proofs.Common.{rules}
use Rattle.std.proofs.lemmas.Nat.{le_bytes_4}
use Rattle.spelling.specs.Numbers.{number_bytes}
use Rattle.q_net.proofs.pieces.short_of.Goals as goal

pub returns : goal.returns
unfolding number_bytes
returns c = le_bytes_4 c.args.bytes _ (search rules) (search rules) c.from_le_bytes.ensures
