-- run_ask: `ask PROGRAM START`: where the node takes the query, its answer is asked for.
use Rattle.std.proofs.Common.{◌∙◌}
use Rattle.q_net.specs.declared.request.Request.TheVariants as request
use Rattle.q_asker.specs.declared.script.ClientLine.TheVariants as line
use Rattle.q_asker.proofs.Running.{line_asked, line_stop, takes_some}
use Rattle.q_asker.proofs.line.run_ask.Goals as goal

pub returns-in_err-said-clause-steps : goal.returns-in_err-said-clause-steps
returns-in_err-said-clause-steps g c =
    line_stop (line.Ask c.args.program c.args.start) c.in_err-said.field-0.0 _ _ c.from_residual.result c.from_residual.ensures.1 c.in_err-said.ensures.steps

pub returns-in-Some-number_in-clause-steps : goal.returns-in-Some-number_in-clause-steps
returns-in-Some-number_in-clause-steps g c =
    let takes = takes_some (request.Ask c.number.result c.args.start) _ _ c.in_ok-said.field-0 c.in-Some.said c.in-Some.is c.in_ok-said.ensures.steps in
    line_asked c.args.program c.args.start c.number.result c.in-Some-number_in.query c.in-Some.said _ _ _ c.look.result
    (c.number.ensures ∙ c.of_number.ensures) takes.0 c.in-Some-number_in.ensures takes.1 c.look.ensures.steps
