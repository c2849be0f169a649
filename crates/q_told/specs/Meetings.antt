-- Which pairs of operations are printed.
use Rattle.std.specs.Prelude.{Bool}
use Rattle.sc_world.specs.declared.op.Op.{Op}
use Rattle.q_told.specs.declared.meetings.Pairs.{Pairs}
use Rattle.q_told.specs.declared.meetings.Pairs.TheVariants.{Later, Ended}
use Rattle.q_told.specs.Printing.{is_pair, is_ended_pair}

abbrev pub is_told : Pairs → Op → Op → Bool
is_told Later = is_pair
is_told Ended = is_ended_pair
