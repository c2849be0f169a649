-- Flow::of: the flow of a text, or the first fault in rising order of the instructions.
use Rattle.std.proofs.Common.{◌≡◌, rules}
use Rattle.bq_flow.specs.declared.fault.FlowFault.TheVariants.{OutOfMemory}
use Rattle.bq_flow.proofs.Legal.{refused}
use Rattle.bq_flow.proofs.flow.Flow.of.Goals as goal

pub returns-in_err-check-clause-all : goal.returns-in_err-check-clause-all
returns-in_err-check-clause-all c = λ h.
    let memory : c.in_err-check.field-0.0 ≡ OutOfMemory = refused c.args.text.now c.in_err-check.field-0.0 c.in_err-check.ensures.fault h in
    search rules
