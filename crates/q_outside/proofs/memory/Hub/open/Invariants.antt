use Rattle.std.proofs.Common.{◌≡◌, vec_len}
use Rattle.q_outside.proofs.memory.Hub.open.Given as goal

abbrev pub invariant-loop : goal.invariant-loop
invariant-loop l = vec_len l.mailboxes ≡ l.counter
