-- All ones shifted down by the leading zeros.
use Rattle.std.proofs.Common.{ap, ◌∙◌, arith, ◌≡◌}
use Rattle.bq_range.specs.Table.{ones}
use Rattle.bq_range.proofs.Ones.{ones-zero, ones_is, ones_above, ones_least}
use Rattle.bq_range.proofs.range.arithmetic.ones.Goals as goal

pub returns-then-x-eq0-clause-value : goal.returns-then-x-eq0-clause-value
returns-then-x-eq0-clause-value c = let e : 0 ≡ c.args.x = omega arith in ones-zero ∙ ap ones e

pub returns-else-x-eq0-clause-value : goal.returns-else-x-eq0-clause-value
returns-else-x-eq0-clause-value c = ones_is c.args.x

pub returns-else-x-eq0-clause-above : goal.returns-else-x-eq0-clause-above
returns-else-x-eq0-clause-above c = rw (ones_is c.args.x) (ones_above c.args.x (omega arith))

pub returns-else-x-eq0-clause-least : goal.returns-else-x-eq0-clause-least
returns-else-x-eq0-clause-least c = λ k h. rw (ones_is c.args.x) (ones_least c.args.x k (omega arith) h)
