-- ScriptLine::read: the command with this word, where there is one.
use Rattle.q_script.proofs.Events.{alone_judged, no_command, line_judged}
use Rattle.q_script.proofs.line.ScriptLineLine.read.Goals as goal

pub returns-in_default : goal.returns-in_default
returns-in_default c = alone_judged c.args.text.now c.alone.result c.in_default.ensures c.alone.ensures

pub returns-in_default-read : goal.returns-in_default-read
returns-in_default-read c = no_command c.args.text.now c.in-Some.word.now c.in-Some.rest.now c.in-Some.ensures c.in_default-read.ensures

pub returns : goal.returns
returns c = line_judged c.args.text.now _ _ c.in-Some-read.command c.operands.result c.in-Some.ensures c.in-Some-read.ensures c.operands.ensures
