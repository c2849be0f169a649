-- Simulation::tell_pairs: tells of each pair of a store and a later collect.
use Rattle.std.proofs.Common.{string_bytes}
use Rattle.q_sim.specs.Seen.{seen}
use Rattle.q_sim.proofs.PairsTold.{pairs_told}
use Rattle.q_sim.proofs.simulation.Simulation.tell_pairs.Goals as goal

pub returns : goal.returns
returns c =
    pairs_told c.print_pairs.result (seen c.args.self.now) c.ops.result.now (string_bytes c.args.self.now.lines) (string_bytes c.print_pairs.new.lines)
    c.ops.ensures.ops c.print_pairs.ensures
