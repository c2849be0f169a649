-- Certified::longest: the greatest number of instructions on a path from unit 0 to an EXIT, from 1 to 4,096.
use Rattle.std.proofs.Common.{arith}
use Rattle.bq_flow.proofs.Best.{longest_some, longest_within}
use Rattle.bq_check.proofs.certified.Certified.longest.Goals as goal

pub returns-clause-some : goal.returns-clause-some
returns-clause-some c = longest_some c.self.inside.text c.self.inside.longest c.self.invariant.certified.longest

pub returns-clause-within : goal.returns-clause-within
returns-clause-within c =
    let within = longest_within c.self.inside.text c.self.inside.longest c.self.invariant.certified.passes.flow c.self.invariant.certified.longest in
    omega (arith, within, c.self.invariant.certified.legal.few)
