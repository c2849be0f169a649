-- ask: the operands of a line `ask`.
use Rattle.q_script.specs.Line.{IsAsk}
use Rattle.q_script.specs.Words.{IsPair}
use Rattle.q_script.proofs.Events.{part_fails, not_ask, not_ask_pair}
use Rattle.q_script.proofs.operands.ask.Goals as goal

pub returns-in_default : goal.returns-in_default
returns-in_default c = not_ask c.args.text.now c.in_default.ensures

pub returns-in_err-program : goal.returns-in_err-program
returns-in_err-program c =
    let fault = c.from_residual in
    part_fails (IsPair 32) IsAsk c.args.text.now c.in-Some.rest.now c.in_err-program.field-0.0 fault.result fault.ensures.1
    (not_ask_pair c.args.text.now (c.in-Some.node, c.in-Some.rest.now) c.in-Some.ensures) c.in_err-program.ensures
