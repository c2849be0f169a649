use Rattle.std.proofs.Common.{◌≡◌, ◌++◌, length}
use Rattle.sc_view.specs.Rows.{joined}
use Rattle.sc_view.proofs.row.next_entry.Given as goal

abbrev pub invariant-loop-chunk : goal.invariant-loop-chunk
invariant-loop-chunk l = l.rest.entries.now ++ joined l.rest.chunks.now ≡ l.fn.rest.entries.now ++ joined l.fn.rest.chunks.now

abbrev pub decreases-loop-chunk : goal.decreases-loop-chunk
decreases-loop-chunk l = length l.rest.chunks.now
