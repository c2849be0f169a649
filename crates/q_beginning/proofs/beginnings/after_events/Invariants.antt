use Rattle.q_beginning.specs.Beginning.{IsAfter}
use Rattle.q_beginning.proofs.beginnings.after_events.Given as goal

-- so many events were read
abbrev pub invariant-loop : goal.invariant-loop
invariant-loop l = IsAfter l.version l.bytes l.counter l.rest
