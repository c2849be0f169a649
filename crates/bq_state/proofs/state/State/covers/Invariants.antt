use Rattle.std.proofs.Common.{ℕ, ◌<◌}
use Rattle.std.specs.Prelude.{slice_index_or}
use Rattle.bq_state.specs.Kinds.{KindCovers}
use Rattle.bq_state.specs.declared.kind.Kind.TheVariants.{Unset}
use Rattle.bq_state.proofs.state.State.covers.Given as goal

abbrev pub invariant-loop-register : goal.invariant-loop-register
invariant-loop-register l = (k : ℕ) → k < l.register
    → KindCovers l.other-inside.lengths (slice_index_or l.self-inside.kinds k Unset) (slice_index_or l.other-inside.kinds k Unset)
