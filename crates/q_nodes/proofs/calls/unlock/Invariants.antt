use Rattle.std.proofs.Common.{◌≡◌, length}
use Rattle.q_nodes.proofs.calls.unlock.Given as goal

abbrev pub invariant-loop-lock : goal.invariant-loop-lock
invariant-loop-lock l = length l.nodes.books.items ≡ length l.yielded
