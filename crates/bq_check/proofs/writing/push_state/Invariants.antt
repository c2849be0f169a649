use Rattle.bq_check.specs.Spelling.{kind_bytes}
use Rattle.bq_check.proofs.Written.{Written}
use Rattle.bq_check.proofs.writing.push_state.Given as goal

abbrev pub invariant-loop-kind : goal.invariant-loop-kind
invariant-loop-kind l = Written kind_bytes l.initial.out.items l.kind-items l.kind-index l.out.items
