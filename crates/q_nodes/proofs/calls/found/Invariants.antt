use Rattle.std.proofs.Common.{◌≡◌, length}
use Rattle.q_nodes.proofs.calls.found.Given as goal

abbrev pub invariant-loop-asker : goal.invariant-loop-asker
invariant-loop-asker l = length l.locks.items ≡ length l.yielded
