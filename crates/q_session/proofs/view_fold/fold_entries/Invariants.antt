-- What a fold over the entries that are left comes to from here, one over all of them comes to from the start.
use Rattle.std.proofs.Common.{ℕ, List, All, ◌+◌, ◌*◌, ◌≤◌, length, map, take}
use Rattle.bq_range.specs.Interval.{IsIn}
use Rattle.bq_meaning.specs.declared.run.Ended.{Ended}
use Rattle.q_session.specs.Folds.{GoesOn}
use Rattle.q_session.specs.Records.{record_bytes}
use Rattle.q_session.proofs.view_fold.fold_entries.Given as goal

abbrev pub invariant-loop-first : goal.invariant-loop-first
invariant-loop-first l = record {
  lengths : All (λ e. IsIn (16 + length e.1.value) l.certified.lengths) l.rest;
  onward : (to : Ended) (after : List ℕ) → GoesOn l.certified.text (map record_bytes l.rest) l.ran (take 512 l.block) to after
      → GoesOn l.certified.text (map record_bytes l.entries) l.fn.ran (take 512 l.fn.block) to after;
  within : l.ran.steps + l.certified.longest * length l.rest ≤ l.fn.ran.steps + l.certified.longest * length l.entries;
}

abbrev pub decreases-loop-first : goal.decreases-loop-first
decreases-loop-first l = length l.rest
