-- Reader::kinds: the kinds of the eleven registers.
use Rattle.std.proofs.Common.{arith}
use Rattle.bq_check.proofs.Read.{no_kinds}
use Rattle.bq_check.proofs.reading.Reader.kinds.Goals as goal

pub returns-in_default-clause-none : goal.returns-in_default-clause-none
returns-in_default-clause-none c =
    let loop = c.loop-register in
    no_kinds c.args.form c.args.self.now.rest.now loop.kinds loop.register loop.self.rest.now loop.invariant (omega arith) c.in_default.ensures.none
