-- Cluster::answers_are_true: a law of every cluster, however it came about: each recorded answer is the meaning of
-- its query's program over the view that the query's collect returned, and that view holds what was stored before.
use Rattle.q_history.specs.Headline.{AnswersAreTrue}
use Rattle.q_cluster.proofs.Histories.{of_every}
use Rattle.q_cluster.proofs.cluster.Cluster.answers_are_true.Goals as goal

pub returns : goal.returns
returns c = of_every AnswersAreTrue c.every_answer_is_true.ensures c.self.invariant c.self.view_is
