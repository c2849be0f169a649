-- Simulation::note: notes a node that came, and a delivery that was accepted.
use Rattle.std.proofs.Common.{refl}
use Rattle.q_sim.specs.Seen.{seen}
use Rattle.q_sim.specs.Simulates.{SimState}
use Rattle.q_sim.proofs.Goes.{goes_itself}
use Rattle.q_sim.proofs.Awaiting.{grows_either, still_from}
use Rattle.q_sim.proofs.simulation.Simulation.note.Goals as goal

pub invariant_of-self : goal.invariant_of-self
invariant_of-self c =
    let s = c.args.self.now in
    let delivered = c.insert.new.self in
    let pair = c.in-Ok-Deliver in
    let grows = grows_either c.insert.result s.delivered delivered (pair.message, pair.node) c.insert.ensures.ok c.insert.ensures.err in
    let after : SimState = record (seen s) { delivered = delivered } in
    record { rising = s.rising; sent = s.sent; passed = still_from (seen s) after (goes_itself s.cluster) refl grows s.awaited_from s.sent s.passed }
