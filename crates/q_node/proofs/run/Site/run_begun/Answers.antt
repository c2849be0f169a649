-- Site::run_begun: runs a node that was just begun, to its end.
use Rattle.q_node.proofs.run.Site.run_begun.Goals as goal

pub returns-clause-written : goal.returns-clause-written
returns-clause-written g c = c.close.ensures.written _ _ _ c.begin_and_run-talk.ensures.said

pub returns-clause-journal : goal.returns-clause-journal
returns-clause-journal g c = λ given. c.close.ensures.journal _ _ given _ c.end-ended.ensures.kept

pub returns-clause-begun : goal.returns-clause-begun
returns-clause-begun g c = c.close.ensures.begun

pub returns-clause-counted : goal.returns-clause-counted
returns-clause-counted g c = c.close.ensures.counted _ c.begin_and_run-talk.ensures.counted
