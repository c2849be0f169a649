-- program: the operands of a line `program`.
use Rattle.q_script.proofs.Events.{not_program, code_fault}
use Rattle.q_script.proofs.operands.program.Goals as goal

pub returns-in_default : goal.returns-in_default
returns-in_default c = not_program c.args.text.now c.in_default.ensures

pub returns-in-Err : goal.returns-in-Err
returns-in-Err c = code_fault c.args.text.now (c.in-Some.node, c.in-Some.digits.now) c.in-Err.fault c.in-Some.ensures c.in-Err.ensures
