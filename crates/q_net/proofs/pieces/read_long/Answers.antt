-- read_long: the number of the next eight bytes; none where the input ends before them.
use Rattle.std.proofs.Common.{arith}
use Rattle.q_net.proofs.Reading.{number_read}
use Rattle.q_net.proofs.pieces.read_long.Goals as goal

pub returns-clause-read : goal.returns-clause-read
returns-clause-read g c =
    number_read 8 c.long_of.result c.in_ok-fill.field-0 _ _ c.fill.new.into (omega (arith, c.if-branch-lt8.false, c.fill.ensures.len))
    c.in_ok-fill.ensures.read c.long_of.ensures
