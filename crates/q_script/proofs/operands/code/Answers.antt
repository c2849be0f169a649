-- code: the bytes that hexadecimal digits spell, one byte at least.
use Rattle.std.proofs.Common.{length, arith}
use Rattle.q_script.proofs.Faults.{not_empty}
use Rattle.q_script.proofs.Values.{code_judged}
use Rattle.q_script.proofs.operands.code.Goals as goal

pub returns : goal.returns
returns c =
    let none = not_empty (length c.args.digits.now) c.is_empty.result c.is_empty.ensures c.if-is_empty.false in
    code_judged c.args.digits.now c.decoded.result (omega (arith, none)) c.decoded.ensures
