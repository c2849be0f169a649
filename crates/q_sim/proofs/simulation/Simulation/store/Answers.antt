-- Simulation::store: begins to store a value of these bytes at a node.
use Rattle.std.proofs.Common.{subst, string_bytes, OnOk}
use Rattle.q_desk.specs.declared.journal.Call.TheVariants as call
use Rattle.q_history.specs.declared.event.ClusterEvent.TheVariants as event
use Rattle.q_sim.specs.Seen.{Prints, seen}
use Rattle.q_sim.specs.Simulates.{Acts}
use Rattle.q_sim.proofs.Storing.{longer, longer_refused}
use Rattle.q_sim.proofs.simulation.Simulation.store.Goals as goal

pub returns-in-Ok : goal.returns-in-Ok
returns-in-Ok c =
    subst (λ v. OnOk c.call.result (Prints (Acts (event.Call c.args.node (call.Store v))) c.args.self.now c.call.new.self)) c.in-Ok.ensures.ok c.call.ensures

pub returns-in-Err : goal.returns-in-Err
returns-in-Err c =
    longer_refused c.refuse.result (seen c.args.self.now) (seen c.refuse.new.self) c.args.node c.args.bytes.now c.longer_store-fault.result
    (string_bytes c.args.self.now.lines) (string_bytes c.refuse.new.self.lines)
    c.longer_store-fault.ensures (longer c.args.bytes.now c.new.result _ c.in-Err.is c.new.ensures.bad) c.refuse.ensures.noted c.refuse.ensures.line
