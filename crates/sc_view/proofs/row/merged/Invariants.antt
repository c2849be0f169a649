use Rattle.std.proofs.Common.{◌≡◌, ◌++◌, length}
use Rattle.sc_view.specs.Views.{merge}
use Rattle.sc_view.specs.Rows.{joined, IsRow}
use Rattle.sc_view.proofs.MapLemmas.{view_of, Tells, AreBeside}
use Rattle.sc_view.proofs.ViewLemmas.{put_all}
use Rattle.sc_view.proofs.row.merged.Given as goal

abbrev pub invariant-loop-entry : goal.invariant-loop-entry
invariant-loop-entry l =
    let theirs = l.theirs.entries.now ++ joined l.theirs.chunks.now in
    let held = joined l.known.items in
    record {
      row : IsRow l.row.items;
      beside : AreBeside theirs (l.rest.entries.now ++ joined l.rest.chunks.now) held;
      same : Tells theirs (joined l.row.items) held;
      left : put_all (view_of (joined l.row.items)) theirs ≡ merge (view_of held) (view_of (joined l.more));
    }

abbrev pub decreases-loop-entry : goal.decreases-loop-entry
decreases-loop-entry l = length (l.theirs.entries.now ++ joined l.theirs.chunks.now)
