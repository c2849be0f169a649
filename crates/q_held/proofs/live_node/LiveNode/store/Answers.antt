-- LiveNode::store: begins to store a value of these bytes, and answers the operation's tag.
use Rattle.std.proofs.Common.{refl, rules}
use Rattle.q_held.proofs.live_node.LiveNode.store.Goals as goal

pub returns-clause-stored : goal.returns-clause-stored
returns-clause-stored c = (c.in_ok-begun.begun, c.in_ok-begun.ensures, refl, search rules)
