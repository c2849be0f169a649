-- Cluster::step: takes an event, or refuses it with the first of 83, 81, 82, 42, 41, 51, 59, 50, 52, 56, 55, 43,
-- 53, 48, 46 and 47, with 44, or with 99; then the cluster is as it was.
use Rattle.q_cluster.proofs.Histories.{event_leads, answers_kept}
use Rattle.q_cluster.proofs.cluster.Cluster.step.Goals as goal

pub returns-clause-stay : goal.returns-clause-stay
returns-clause-stay c =
    answers_kept c.args.self.now c.take-stepped.new.self c.comes_of_events.ensures
    (event_leads c.args.self.now c.args.event.now c.take-stepped.new.self c.take-stepped.result c.take-stepped.ensures)
