use Rattle.std.proofs.Common.{◌≡◌, ◌-◌, ◌^◌}
use Rattle.q_sim.specs.Awaited.{IsOnward}
use Rattle.q_sim.specs.Seen.{seen}
use Rattle.q_sim.proofs.simulation.Simulation.deliver_all.Given as goal

-- the messages before the one from which on some are awaited were passed
abbrev pub invariant-loop-self : goal.invariant-loop-self
invariant-loop-self l = record {
  onward : IsOnward l.fn.limit (seen l.initial.self) l.left (seen l.self);
  silent : l.self.lines ≡ l.initial.self.lines;
}

abbrev pub decreases-loop-self : goal.decreases-loop-self
decreases-loop-self l = 2 ^ 64 - l.self.awaited_from
