-- is_state: a state of the checker is one that the second form tells.
use Rattle.std.proofs.Common.{◌≤◌, length, ap, subst, arith}
use Rattle.std.specs.List.{AllByRecursion}
use Rattle.bq_state.specs.Kinds.{AreLengths}
use Rattle.bq_check.specs.declared.form.NotesForm.TheVariants.{Second}
use Rattle.bq_check.specs.Spelling.{IsKind}
use Rattle.bq_check.proofs.Seen.{seen_all}
use Rattle.bq_check.proofs.kept.is_state.Goals as goal

pub returns : goal.returns
returns c =
    let items = c.kinds-kind-items.result.now in
    let told = c.kinds-kind-items.ensures in
    let few : length items ≤ c.loop-kind.kind-index = omega (arith, ap length told.kinds, told.count, c.loop-kind-test.false) in
    let all = seen_all (IsKind Second) items c.loop-kind.kind-index c.loop-kind.invariant few in
    record {
      lengths = subst AreLengths c.lengths.ensures c.least-least.ensures.lengths;
      kinds = record { count = told.count; each = subst (AllByRecursion (IsKind Second)) told.kinds all };
    }
