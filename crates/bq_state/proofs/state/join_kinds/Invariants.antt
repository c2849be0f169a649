-- the registers below are joined, the others are as they were
use Rattle.std.proofs.Common.{ℕ, ◌<◌, ◌≤◌, ◌≡◌, length}
use Rattle.std.specs.Prelude.{slice_index_or}
use Rattle.bq_state.specs.Kinds.{join_kinds}
use Rattle.bq_state.specs.declared.kind.Kind.TheVariants.{Unset}
use Rattle.bq_state.proofs.state.join_kinds.Given as goal

abbrev pub invariant-loop-register : goal.invariant-loop-register
invariant-loop-register l =
    (length l.kinds ≡ 11)
    × ((k : ℕ) → k < l.register → slice_index_or l.kinds k Unset
    ≡ join_kinds l.lengths l.other_lengths (slice_index_or l.initial.kinds k Unset) (slice_index_or l.others k Unset))
    × ((k : ℕ) → l.register ≤ k → slice_index_or l.kinds k Unset ≡ slice_index_or l.initial.kinds k Unset)
