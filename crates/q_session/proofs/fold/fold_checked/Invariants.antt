-- The records so far fold, at every placement, to the accumulator, the steps and the frame.
use Rattle.std.proofs.Common.{◌*◌, ◌≤◌, length, map}
use Rattle.bq_meaning.specs.Place.{Place, IsPlacement}
use Rattle.bq_meaning.specs.Answers.{FoldsTo, zero_frame}
use Rattle.q_session.specs.Records.{record_bytes}
use Rattle.q_session.proofs.Records.{shown}
use Rattle.q_session.proofs.fold.fold_checked.Given as goal

abbrev pub invariant-loop-id : goal.invariant-loop-id
invariant-loop-id l = record {
  folds : (p : Place) → IsPlacement p → FoldsTo p l.certified.text (map record_bytes (map shown l.yielded)) l.start zero_frame l.ran.acc l.ran.steps l.frame;
  within : l.ran.steps ≤ l.certified.longest * length l.yielded;
}
