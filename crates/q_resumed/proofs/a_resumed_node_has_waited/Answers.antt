-- a_resumed_node_has_waited: a law.
use Rattle.q_resumed.proofs.Waited.{waited}
use Rattle.q_resumed.proofs.a_resumed_node_has_waited.Goals as goal

pub returns-clause-beginning : goal.returns-clause-beginning
returns-clause-beginning c = waited c.one_longest.ensures c.one_head.ensures c.one_event.ensures

pub returns-clause-given : goal.returns-clause-given
returns-clause-given c = λ part whole more m p w h g.
    c.givers_are_senders.ensures.more m part whole w.replay (waited c.one_longest.ensures c.one_head.ensures c.one_event.ensures part whole more p w h) g
