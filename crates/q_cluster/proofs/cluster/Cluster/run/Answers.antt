-- Cluster::run: takes the events in turn, up to the first that is refused, which is answered by its place with its
-- refusal.
use Rattle.q_cluster.proofs.Histories.{run_leads, answers_kept}
use Rattle.q_cluster.proofs.cluster.Cluster.run.Goals as goal

pub returns-clause-stay : goal.returns-clause-stay
returns-clause-stay c =
    answers_kept c.args.self.now c.take_all-ran.new.self c.comes_of_events.ensures
    (run_leads c.args.self.now c.args.events.now c.take_all-ran.new.self c.take_all-ran.result c.take_all-ran.ensures)
