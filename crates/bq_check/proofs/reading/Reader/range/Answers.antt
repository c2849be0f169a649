-- Reader::range: a range at the front of the bytes.
use Rattle.std.proofs.Common.{arith}
use Rattle.spelling.proofs.Codes.{no_number, no_first, no_second, no_both}
use Rattle.bq_check.proofs.Fields.{range_parts}
use Rattle.bq_check.proofs.Read.{if_none, if_not}
use Rattle.bq_check.proofs.reading.Reader.range.Goals as goal

pub returns-in_err-lo-clause-none : goal.returns-in_err-lo-clause-none
returns-in_err-lo-clause-none c =
    if_none c.from_residual.result (no_first range_parts _ (no_number 8 c.args.self.now.rest.now c.in_err-lo.ensures.few))

pub returns-in_err-hi-clause-none : goal.returns-in_err-hi-clause-none
returns-in_err-hi-clause-none c =
    let none = no_number 8 c.take_u64.new.bytes.now c.in_err-hi.ensures.few in
    if_none c.from_residual-in_err-hi.result (no_second range_parts c.in_ok-lo.lo _ _ c.in_ok-lo.ensures.fits c.in_ok-lo.ensures.parts none)

pub returns-clause-none : goal.returns-clause-none
returns-clause-none c =
    let first = c.in_ok-lo.ensures in
    let second = c.in_ok-hi.ensures in
    if_not c.new.result _ c.new.ensures (λ apart.
    no_both range_parts c.in_ok-lo.lo c.in_ok-hi.hi _ _ _ first.fits second.fits first.parts second.parts
    (λ a is lo_is hi_is. apart (omega (arith, is.ordered, lo_is, hi_is))))
