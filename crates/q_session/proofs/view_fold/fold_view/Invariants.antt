-- The records of the chunks so far fold, at every placement, to the accumulator, the steps and the frame that lies in
-- the block.
use Rattle.std.proofs.Common.{◌-◌, ◌*◌, ◌≤◌, length, map, take}
use Rattle.bq_meaning.specs.Place.{Place, IsPlacement}
use Rattle.bq_meaning.specs.Answers.{FoldsTo, zero_frame}
use Rattle.sc_view.specs.Views.{joined}
use Rattle.q_session.specs.Records.{record_bytes}
use Rattle.q_session.proofs.view_fold.fold_view.Given as goal

abbrev pub invariant-loop-entries : goal.invariant-loop-entries
invariant-loop-entries l = record {
  folds : (p : Place) → IsPlacement p
      → FoldsTo p l.certified.text (map record_bytes (joined (take l.k l.chunks))) l.start zero_frame l.ran.acc l.ran.steps (take 512 l.block);
  within : l.ran.steps ≤ l.certified.longest * length (joined (take l.k l.chunks));
}

abbrev pub decreases-loop-entries : goal.decreases-loop-entries
decreases-loop-entries l = length l.chunks - l.k
