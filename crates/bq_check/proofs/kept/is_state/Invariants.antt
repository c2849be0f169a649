use Rattle.bq_check.specs.declared.form.NotesForm.TheVariants.{Second}
use Rattle.bq_check.specs.Spelling.{IsKind}
use Rattle.bq_check.proofs.Seen.{Seen}
use Rattle.bq_check.proofs.kept.is_state.Given as goal

abbrev pub invariant-loop-kind : goal.invariant-loop-kind
invariant-loop-kind l = Seen (IsKind Second) l.kind-items l.kind-index
