use Rattle.std.proofs.Common.{◌≡◌, ◌+◌, ◌++◌, length}
use Rattle.sc_view.specs.Rows.{joined, count_lacking, count_newer}
use Rattle.sc_view.proofs.MapLemmas.{AreBeside}
use Rattle.sc_view.proofs.row.what_is_new.Given as goal

abbrev pub invariant-loop-entry : goal.invariant-loop-entry
invariant-loop-entry l = record {
  beside : AreBeside (l.theirs.entries.now ++ joined l.theirs.chunks.now) (l.rest.entries.now ++ joined l.rest.chunks.now) (joined l.known);
  lacking : l.ids + count_lacking (joined l.known) (l.theirs.entries.now ++ joined l.theirs.chunks.now) ≡ count_lacking (joined l.known) (joined l.more);
  newer : l.values + count_newer (joined l.known) (l.theirs.entries.now ++ joined l.theirs.chunks.now) ≡ count_newer (joined l.known) (joined l.more);
}

abbrev pub decreases-loop-entry : goal.decreases-loop-entry
decreases-loop-entry l = length (l.theirs.entries.now ++ joined l.theirs.chunks.now)
