-- copy_room: copies a room to a place: so many of its first bytes at least.
use Rattle.std.proofs.Common.{arith}
use Rattle.bq_frame.proofs.Adjacent.{part_first}
use Rattle.bq_frame.proofs.block.copy_room.Goals as goal

pub returns-then-count-le-SHORT_LENGTH-clause-part : goal.returns-then-count-le-SHORT_LENGTH-clause-part
returns-then-count-le-SHORT_LENGTH-clause-part c =
    part_first c.args.bytes.now c.args.room.now c.copy_first.new.bytes c.args.at c.args.count 48
    c.if-count-le-SHORT_LENGTH.true (omega (arith, c.told-room)) (omega (arith, c.requires.inside)) c.copy_first.ensures

pub returns-else-count-le-SHORT_LENGTH-clause-part : goal.returns-else-count-le-SHORT_LENGTH-clause-part
returns-else-count-le-SHORT_LENGTH-clause-part c =
    part_first c.args.bytes.now c.args.room.now c.copy_first-else-count-le-SHORT_LENGTH.new.bytes c.args.at c.args.count 112
    c.requires.few (omega (arith, c.told-room)) (omega (arith, c.requires.inside)) c.copy_first-else-count-le-SHORT_LENGTH.ensures
