-- greet: writes where the node hears, and then what is said at the console.
use Rattle.q_node.proofs.Conversing.{greets}
use Rattle.q_node.proofs.talk.greet.Goals as goal

pub returns-clause-said : goal.returns-clause-said
returns-clause-said g c = greets _ _ _ _ _ c.converse.result c.in_ok-put_front.ensures.written c.converse.ensures.said
