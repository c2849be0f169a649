-- Simulation::attempt: delivers a message to a node, and notes that it was tried.
use Rattle.std.proofs.Common.{refl, arith}
use Rattle.q_sim.specs.Seen.{seen}
use Rattle.q_sim.specs.Simulates.{SimState}
use Rattle.q_sim.proofs.Goes.{takes_goes}
use Rattle.q_sim.proofs.Awaiting.{grows_either, still_from}
use Rattle.q_sim.proofs.simulation.Simulation.attempt.Goals as goal

pub invariant_of-self-2 : goal.invariant_of-self-2
invariant_of-self-2 c =
    let s = c.args.self.now in
    let cluster = c.step-answer.new.self in
    let delivered = c.insert.new.self in
    let goes = takes_goes s.cluster cluster _ c.step-answer.result (λ id is. absurd (cc)) c.step-answer.ensures.takes in
    let grows = grows_either c.insert.result s.delivered delivered (c.args.message, c.args.node) c.insert.ensures.ok c.insert.ensures.err in
    let after : SimState = record (seen s) { cluster = cluster; delivered = delivered } in
    record {
      rising = s.rising;
      sent = omega (arith, s.sent, goes.sent);
      passed = still_from (seen s) after goes refl grows s.awaited_from s.sent s.passed;
    }
