-- Simulation::perform_other: runs a line that is not an event and nothing else.
use Rattle.std.proofs.Common.{subst, OnOk}
use Rattle.q_sim.specs.Simulates.{Calls, Saves, Spreads, Tells}
use Rattle.q_sim.specs.Seen.{PrintsOver}
use Rattle.q_sim.proofs.Performing.{leaves_files, performed}
use Rattle.q_sim.proofs.simulation.Simulation.perform_other.Goals as goal

pub returns-in-Call : goal.returns-in-Call
returns-in-Call g c =
    performed g.F.Files.write_gives c.perform_call.result c.args.self.now c.perform_call.new.self c.args.files.now c.args.files.now c.args.line _ c.in-Call.is
    (leaves_files c.perform_call.result (Calls c.in-Call.call) c.args.self.now c.perform_call.new.self c.args.files.now c.perform_call.ensures)

pub returns-in-All : goal.returns-in-All
returns-in-All g c =
    performed g.F.Files.write_gives c.deliver_all.result c.args.self.now c.deliver_all.new.self c.args.files.now c.args.files.now c.args.line _ c.in-All.is
    (leaves_files c.deliver_all.result (Spreads c.in-All.limit) c.args.self.now c.deliver_all.new.self c.args.files.now c.deliver_all.ensures)

pub returns-in-Pairs : goal.returns-in-Pairs
returns-in-Pairs g c =
    performed g.F.Files.write_gives c.tell_pairs.result c.args.self.now c.tell_pairs.new.self c.args.files.now c.args.files.now c.args.line _ c.in-Pairs.is
    (leaves_files c.tell_pairs.result Tells c.args.self.now c.tell_pairs.new.self c.args.files.now c.tell_pairs.ensures)

pub returns-in-Journal : goal.returns-in-Journal
returns-in-Journal g c =
    performed g.F.Files.write_gives c.save.result c.args.self.now c.save.new.self c.args.files.now c.save.new.files c.args.line _ c.in-Journal.is
    (subst (λ name. OnOk c.save.result (PrintsOver (Saves g.F.Files.write_gives c.in-Journal.node name) c.args.self.now c.args.files.now
    c.save.new.self c.save.new.files)) c.as_str.ensures.value c.save.ensures)
