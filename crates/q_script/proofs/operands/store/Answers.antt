-- store: the operands of a line `store`.
use Rattle.std.proofs.Common.{ℕ}
use Rattle.std.specs.Prelude.{Vec}
use Rattle.std.specs.declared.alloc.Global.{Global}
use Rattle.q_script.specs.Line.{IsStore}
use Rattle.q_script.specs.Records.{IsValue}
use Rattle.q_script.proofs.Events.{part_fails, not_store, not_store_value}
use Rattle.q_script.proofs.operands.store.Goals as goal

pub returns-in_default : goal.returns-in_default
returns-in_default c = not_store c.args.text.now c.in_default.ensures

pub returns-in_err-value : goal.returns-in_err-value
returns-in_err-value c =
    let fault = c.from_residual in
    part_fails (λ text (value : Vec ℕ Global). IsValue text value.items) IsStore c.args.text.now c.in-Some.rest.now c.in_err-value.field-0.0
    fault.result fault.ensures.1 (not_store_value c.args.text.now (c.in-Some.node, c.in-Some.rest.now) c.in-Some.ensures) c.in_err-value.ensures
