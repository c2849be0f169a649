-- Simulation::perform: runs a line.
use Rattle.q_sim.proofs.Performing.{acted}
use Rattle.q_sim.proofs.simulation.Simulation.perform.Goals as goal

pub returns-in-Some : goal.returns-in-Some
returns-in-Some g c =
    acted g.F.Files.write_gives c.step.result c.args.self.now c.step.new.self c.args.files.now c.args.line c.in-Some.event c.in-Some.ensures c.step.ensures
