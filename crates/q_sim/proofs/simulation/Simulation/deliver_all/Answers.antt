-- Simulation::deliver_all: delivers what was not delivered, so many times at most.
use Rattle.std.proofs.Common.{◌≡◌, ◌∙◌, ◌≤◌, [], length, sym, ap, arith, append-nil, string_bytes}
use Rattle.q_sim.specs.Seen.{seen}
use Rattle.q_sim.proofs.Spreading.{nothing_awaited}
use Rattle.q_sim.proofs.simulation.Simulation.deliver_all.Goals as goal

pub returns : goal.returns
returns c =
    let now = c.loop-self.self in
    let inv = c.loop-self.invariant in
    let count : c.sent.result ≡ length now.cluster.past.sent = c.sent.ensures in
    let over : length now.cluster.past.sent ≤ now.awaited_from = omega (arith, count, c.loop-self-test.false) in (
      [],
      nothing_awaited c.args.limit (seen c.args.self.now) c.loop-self.left (seen now) now.awaited_from inv.onward now.passed over,
      ap string_bytes inv.silent ∙ sym (append-nil (string_bytes c.args.self.now.lines)),
    )
