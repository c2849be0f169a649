-- LiveNode::ask: a query begins, and its number is answered.
use Rattle.std.proofs.Common.{refl, rules}
use Rattle.q_held.proofs.live_node.LiveNode.ask.Goals as goal

pub returns-clause-asked : goal.returns-clause-asked
returns-clause-asked c = (c.in_ok-query.field-0, c.in_ok-query.ensures, refl, search rules)
