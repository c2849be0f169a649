-- Flow::longest: the greatest number of instructions on a path from unit 0 to an EXIT, from 1 to 4,096.
use Rattle.std.proofs.Common.{◌≡◌, ◌≤◌, ap, subst}
use Rattle.bq_insn.specs.Slots.{units}
use Rattle.bq_flow.specs.Flow.{TextFlow}
use Rattle.bq_flow.proofs.Best.{longest_within}
use Rattle.bq_flow.proofs.flow.Flow.longest.Goals as goal

pub returns-clause-within : goal.returns-clause-within
returns-clause-within c =
    let within = longest_within c.self.inside.text.now c.self.inside.longest c.self.invariant.legal c.self.invariant.longest in
    let text : c.self.inside.text.now ≡ c.args.self.now.text = ap (λ (f : TextFlow). f.text) c.self.view_is in
    subst (λ t. c.self.inside.longest ≤ units t) text within
