-- The lengths of the values that a node keeps, and of those that it tells.
use Rattle.std.specs.Prelude.{◌≡◌, ℕ, length, All, Some, IfSome}
use Rattle.sc_view.specs.Values.{Lengths, IsWithin}
use Rattle.std.specs.Ordering.{nat_cmp}
use Rattle.std.specs.FinMap as fin
use Rattle.sc_view.specs.Views.{HasValuesWithin}
use Rattle.sc_msg.specs.Lengths.{MessageHasValuesWithin}
use Rattle.sc_operations.specs.declared.session.OperationKind.{OperationKind}
use Rattle.sc_operations.specs.declared.session.OperationKind.TheVariants as kind
use Rattle.sc_operations.specs.declared.session.Session.{Session}
use Rattle.sc_operations.specs.declared.progress.Advance.{Advance}
use Rattle.sc_operations.specs.declared.progress.Advance.TheVariants as advance
use Rattle.sc_operations.specs.declared.progress.Progress.{Progress}
use Rattle.sc_operations.specs.declared.progress.OpResult.{OpResult}
use Rattle.sc_operations.specs.declared.progress.OpResult.TheVariants as op_result
use Rattle.sc_operations.specs.declared.progress.Ended.{Ended}
use Rattle.sc_node.specs.declared.answer.Begun.{Begun}
use Rattle.sc_node.specs.declared.answer.Delivered.{Delivered}
use Rattle.sc_node.specs.Sessions.{kind_of, stored}
use Rattle.sc_node.specs.State.{NodeState}

-- the value that an operation is for
abbrev pub KindHasValuesWithin : Lengths → OperationKind → Type 0
KindHasValuesWithin l (kind.Store e) = IsWithin (length e.value) l
KindHasValuesWithin l kind.Collect = Unit {0}

-- each value of an operation: the one that it is for, and those of the view that it stores, or stores back
pub record SessionHasValuesWithin (l : Lengths) (o : Session) : Type 0 where
  pub kind : KindHasValuesWithin l (kind_of o)
  pub view : IfSome (stored o) (HasValuesWithin l)

-- each value of the open operations
pub record TableHasValuesWithin (l : Lengths) (m : fin.FinMap nat_cmp Session) : Type 0 where
  pub at : (tag : ℕ) (o : Session) → fin.get m tag ≡ Some o → SessionHasValuesWithin l o

-- each value that a node keeps
pub record NodeHasValuesWithin (l : Lengths) (s : NodeState) : Type 0 where
  pub view : HasValuesWithin l s.view
  pub sessions : TableHasValuesWithin l s.sessions

-- each value that is told as an operation begins
pub record BegunHasValuesWithin (l : Lengths) (b : Begun) : Type 0 where
  pub session : SessionHasValuesWithin l b.session
  pub outs : All (MessageHasValuesWithin l) b.outs

abbrev pub AdvanceHasValuesWithin : Lengths → Advance → Type 0
AdvanceHasValuesWithin l (advance.Turned threshold view) = HasValuesWithin l view
AdvanceHasValuesWithin l a = Unit {0}

abbrev pub ProgressHasValuesWithin : Lengths → Progress → Type 0
ProgressHasValuesWithin l p = AdvanceHasValuesWithin l p.advance

abbrev pub ResultHasValuesWithin : Lengths → OpResult → Type 0
ResultHasValuesWithin l op_result.Stored = Unit {0}
ResultHasValuesWithin l (op_result.Returned view) = HasValuesWithin l view

abbrev pub EndedHasValuesWithin : Lengths → Ended → Type 0
EndedHasValuesWithin l e = ResultHasValuesWithin l e.what

-- each value that is told as a message is taken
pub record DeliveryHasValuesWithin (l : Lengths) (d : Delivered) : Type 0 where
  pub outs : All (MessageHasValuesWithin l) d.outs
  pub progress : IfSome d.progress (ProgressHasValuesWithin l)
  pub ended : IfSome d.ended (EndedHasValuesWithin l)
