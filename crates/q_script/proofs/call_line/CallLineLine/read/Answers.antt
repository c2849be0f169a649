-- CallLine::read: the line that a text spells, where it calls a node.
use Rattle.q_script.proofs.Calls.{judged_fault}
use Rattle.q_script.proofs.call_line.CallLineLine.read.Goals as goal

pub returns : goal.returns
returns c = judged_fault c.args.text.now c.in-Err.fault c.in-Err.ensures
