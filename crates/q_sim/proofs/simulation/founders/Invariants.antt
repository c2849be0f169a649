use Rattle.std.proofs.Common.{◌≡◌}
use Rattle.q_sim.specs.Simulates.{first_ids}
use Rattle.q_sim.proofs.simulation.founders.Given as goal

abbrev pub invariant-loop-known : goal.invariant-loop-known
invariant-loop-known l = l.ids.items ≡ first_ids l.known
