use Rattle.std.proofs.Common.{◌≡◌, ◌+◌, ◌++◌, length}
use Rattle.std.specs.Ordering.{nat_cmp}
use Rattle.std.specs.FinMap.Entries.{find}
use Rattle.sc_view.specs.Rows.{joined, from, Rises}
use Rattle.sc_view.proofs.row.seek.Given as goal

abbrev pub invariant-loop-entry : goal.invariant-loop-entry
invariant-loop-entry l = record {
  rises : Rises (l.rest.entries.now ++ joined l.rest.chunks.now);
  found : find nat_cmp l.id (l.rest.entries.now ++ joined l.rest.chunks.now) ≡ find nat_cmp l.id (l.fn.rest.entries.now ++ joined l.fn.rest.chunks.now);
  left : from l.id (l.rest.entries.now ++ joined l.rest.chunks.now) ≡ from l.id (l.fn.rest.entries.now ++ joined l.fn.rest.chunks.now);
}

abbrev pub decreases-loop-entry : goal.decreases-loop-entry
decreases-loop-entry l = length l.rest.entries.now + length (joined l.rest.chunks.now) + length l.rest.chunks.now
