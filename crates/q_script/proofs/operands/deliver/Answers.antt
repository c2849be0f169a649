-- deliver: the operands of a line `deliver`.
use Rattle.q_script.specs.Line.{IsDeliver}
use Rattle.q_script.specs.Words.{IsPair}
use Rattle.q_script.proofs.Events.{part_fails, not_deliver}
use Rattle.q_script.proofs.operands.deliver.Goals as goal

pub returns-in_err-message : goal.returns-in_err-message
returns-in_err-message c =
    let fault = c.from_residual in
    part_fails (IsPair 32) IsDeliver c.args.text.now c.args.text.now c.in_err-message.field-0.0 fault.result fault.ensures.1
    (not_deliver c.args.text.now) c.in_err-message.ensures
