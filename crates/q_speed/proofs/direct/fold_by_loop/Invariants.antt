-- fold_by_loop: one record less is left.
use Rattle.std.proofs.Common.{length}
use Rattle.q_speed.proofs.direct.fold_by_loop.Given as goal

abbrev pub decreases-loop-record : goal.decreases-loop-record
decreases-loop-record l = length l.rest
