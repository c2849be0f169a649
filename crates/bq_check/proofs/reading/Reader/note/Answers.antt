-- Reader::note: the state of one unit, or none.
use Rattle.std.proofs.Common.{arith}
use Rattle.bq_check.proofs.Read.{if_none, no_note}
use Rattle.bq_check.proofs.reading.Reader.note.Goals as goal

pub returns-in_err-state-in-1-clause-none : goal.returns-in_err-state-in-1-clause-none
returns-in_err-state-in-1-clause-none c =
    let byte = c.in_ok-take_byte in
    if_none c.from_residual-in_err-state-in-1.result
    (no_note c.args.form _ _ byte.field-0 byte.ensures.parts (λ e. omega (arith, e, c.in-1.is)) (λ e. c.in_err-state-in-1.ensures.none))
