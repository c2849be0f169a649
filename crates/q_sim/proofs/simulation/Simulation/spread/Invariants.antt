use Rattle.std.proofs.Common.{◌≡◌}
use Rattle.q_sim.specs.Awaited.{IsOnward}
use Rattle.q_sim.proofs.Spreading.{Ahead}
use Rattle.q_sim.specs.Seen.{seen}
use Rattle.q_sim.proofs.simulation.Simulation.spread.Given as goal

-- the nodes before this place were passed
abbrev pub invariant-loop-place : goal.invariant-loop-place
invariant-loop-place l = record {
  onward : IsOnward l.fn.limit (seen l.initial.self) l.left (seen l.self);
  ahead : Ahead (seen l.self) l.message l.place;
  silent : l.self.lines ≡ l.initial.self.lines;
}
