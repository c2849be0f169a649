-- Reader::offsets: the offsets of a pointer at the front of the bytes.
use Rattle.spelling.proofs.Codes.{no_number, no_first, no_second, no_both}
use Rattle.bq_check.proofs.Fields.{span_parts}
use Rattle.bq_check.proofs.Read.{if_none, if_not, no_span}
use Rattle.bq_check.proofs.reading.Reader.offsets.Goals as goal

pub returns-in_err-take_u32-clause-none : goal.returns-in_err-take_u32-clause-none
returns-in_err-take_u32-clause-none c =
    if_none c.from_residual.result (no_first span_parts _ (no_number 4 c.args.self.now.rest.now c.in_err-take_u32.ensures.few))

pub returns-in_err-take_u32-2-clause-none : goal.returns-in_err-take_u32-2-clause-none
returns-in_err-take_u32-2-clause-none c =
    let first = c.in_ok-take_u32 in
    let none = no_number 4 c.take_u32.new.bytes.now c.in_err-take_u32-2.ensures.few in
    if_none c.from_residual-in_err-take_u32-2.result (no_second span_parts first.field-0 _ _ first.ensures.fits first.ensures.parts none)

pub returns-clause-none : goal.returns-clause-none
returns-clause-none c =
    let first = c.in_ok-take_u32 in
    let second = c.in_ok-take_u32-2 in
    if_not c.new.result _ c.new.ensures (λ apart.
    no_both span_parts first.field-0 second.field-0 _ _ _ first.ensures.fits second.ensures.fits first.ensures.parts second.ensures.parts
    (no_span c.cast_signed-lo.result c.cast_signed-hi.result _ _ c.cast_signed-lo.ensures c.cast_signed-hi.ensures apart))
