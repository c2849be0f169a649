-- An operation sees the low bits of the words alone, and the row holds what it leaves of them.
use Rattle.std.proofs.Common.{sym, subst}
use Rattle.bq_word.specs.Word.{bits_of, operation, low}
use Rattle.bq_word.proofs.Low.{operation_low}
use Rattle.bq_range.specs.Interval.{Interval, IsIn}
use Rattle.bq_range.proofs.Rows.{row_holds}
use Rattle.bq_range.proofs.range.Range.alu.Goals as goal

pub returns-else-is_single-clause-covers : goal.returns-else-is_single-clause-covers
returns-else-is_single-clause-covers c = λ x y h k.
    rw (← operation_low width op x y)
    (subst (λ (r : Interval). IsIn (operation (bits_of width) op (low (bits_of width) x) (low (bits_of width) y)) r) (sym c.row.ensures)
    (row_holds width one.result other.result (low (bits_of width) x) (low (bits_of width) y) one.ensures.bound other.ensures.bound
    (one.ensures.covers x h) (other.ensures.covers y k) op))
  where
    open c use {args.{width, op}, cut as one, cut-else-is_single as other}
