-- Simulation::take: takes one event.
use Rattle.std.proofs.Common.{refl, arith, Ok}
use Rattle.q_sim.specs.Seen.{seen}
use Rattle.q_sim.specs.Simulates.{SimState}
use Rattle.q_sim.proofs.Goes.{takes_goes}
use Rattle.q_sim.proofs.Awaiting.{grows_itself, still_from}
use Rattle.q_sim.proofs.simulation.Simulation.take.Goals as goal

pub invariant_of-self-in_default : goal.invariant_of-self-in_default
invariant_of-self-in_default c =
    let s = c.args.self.now in
    let cluster = c.step.new.self in
    let goes = takes_goes s.cluster cluster c.args.event.now (Ok c.in_ok-stepped.stepped) c.in_default.not-Enter c.in_ok-stepped.ensures.takes in
    let after : SimState = record (seen s) { cluster = cluster } in
    record {
      rising = s.rising;
      sent = omega (arith, s.sent, goes.sent);
      passed = still_from (seen s) after goes refl (grows_itself s.delivered s.delivered refl) s.awaited_from s.sent s.passed;
    }
