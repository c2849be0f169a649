-- founders: the ids of so many founders, counted from 1, and 257 of them at most.
use Rattle.std.proofs.Common.{◌∙◌}
use Rattle.q_sim.proofs.Founders.{more_ids}
use Rattle.q_sim.proofs.simulation.founders.Goals as goal

pub loop-known-preserved : goal.loop-known-preserved
loop-known-preserved c = c.in_ok-push.ensures.items ∙ more_ids c.loop-known.ids.items c.loop-known.known c.loop-known.invariant
