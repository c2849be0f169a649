-- Simulation::new: the cluster of the founders; nothing is delivered or printed.
use Rattle.std.proofs.Common.{min}
use Rattle.q_sim.proofs.Founders.{founders_rise}
use Rattle.q_sim.proofs.simulation.Simulation.new.Goals as goal

pub invariant_of-result-clause-rising : goal.invariant_of-result-clause-rising
invariant_of-result-clause-rising c = founders_rise c.in_ok-nodes.nodes.items (min c.args.founding.now.count 257) c.in_ok-nodes.ensures
