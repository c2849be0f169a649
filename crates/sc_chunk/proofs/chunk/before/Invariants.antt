use Rattle.std.proofs.Common.{◌≡◌, ◌+◌, drop}
use Rattle.sc_chunk.specs.Entries.{before}
use Rattle.sc_chunk.proofs.chunk.before.Given as goal

abbrev pub invariant-loop-k : goal.invariant-loop-k
invariant-loop-k g l = before l.id l.entries ≡ l.k + before l.id (drop l.k l.entries)
