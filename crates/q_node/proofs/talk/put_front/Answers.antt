-- put_front: writes how the node comes back, if it does, and where it hears.
use Rattle.q_outside.proofs.Writing.{behind_last}
use Rattle.q_node.proofs.talk.put_front.Goals as goal

pub returns-clause-failed : goal.returns-clause-failed
returns-clause-failed g c = behind_last _ _ _ _ _ c.in_ok-put_resumption.ensures.written c.put_all.ensures.failed
