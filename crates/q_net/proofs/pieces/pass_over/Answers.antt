-- pass_over: so many bytes, passed over.
use Rattle.std.proofs.Common.{rules}
use Rattle.q_net.proofs.Reading.{blob_failed, then_failed, passed_byte}
use Rattle.q_net.proofs.pieces.pass_over.Goals as goal

pub returns-in_err-read_byte-clause-read : goal.returns-in_err-read_byte-clause-read
returns-in_err-read_byte-clause-read g c =
    let (done, len, counted, consumed) = c.loop-at.invariant in
    blob_failed _ c.args.len _ _ c.from_residual.result c.from_residual.ensures.1 (then_failed _ _ _ done consumed c.in_err-read_byte.ensures.read)

pub loop-at-preserved : goal.loop-at-preserved
loop-at-preserved g c =
    let (done, len, counted, consumed) = c.loop-at.invariant in
    let (all, is_len, read) = passed_byte _ _ _ c.in_ok-read_byte.field-0 (done, len, consumed) c.if-is_none.ensures c.in_ok-read_byte.ensures.read in
    (all, is_len, search rules, read)
