use Rattle.std.proofs.Common.{◌≡◌}
use Rattle.q_nodes.specs.Runs.{ids_to}
use Rattle.q_nodes.proofs.calls.ids.Given as goal

abbrev pub invariant-loop-known : goal.invariant-loop-known
invariant-loop-known l = l.ids.items ≡ ids_to l.known
