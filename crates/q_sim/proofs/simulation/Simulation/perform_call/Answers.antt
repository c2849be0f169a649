-- Simulation::perform_call: runs a line that calls a node, and is not an event and nothing else.
use Rattle.std.proofs.Common.{List, ℕ, sym, subst, OnOk}
use Rattle.q_script.specs.declared.call_line.CallLine.{CallLine}
use Rattle.q_desk.specs.declared.journal.Call.TheVariants as call
use Rattle.q_history.specs.declared.event.ClusterEvent.TheVariants as event
use Rattle.q_sim.specs.Simulates.{Acts, Calls, Registers}
use Rattle.q_sim.specs.Seen.{Prints}
use Rattle.q_sim.proofs.simulation.Simulation.perform_call.Goals as goal

pub returns-in-Program : goal.returns-in-Program
returns-in-Program c =
    subst (λ (line : CallLine). OnOk c.register.result (Prints (Calls line) c.args.self.now c.register.new.self)) (sym c.in-Program.is)
    (subst (λ (code : List ℕ). OnOk c.register.result (Prints (Registers c.in-Program.node code) c.args.self.now c.register.new.self))
    c.as_slice.ensures.value c.register.ensures)

pub returns-in-Store : goal.returns-in-Store
returns-in-Store c =
    subst (λ (line : CallLine). OnOk c.store.result (Prints (Calls line) c.args.self.now c.store.new.self)) (sym c.in-Store.is)
    (subst (λ (v : List ℕ). OnOk c.store.result (Prints (Acts (event.Call c.in-Store.node (call.Store v))) c.args.self.now c.store.new.self))
    c.as_slice-in-Store.ensures.value c.store.ensures)
