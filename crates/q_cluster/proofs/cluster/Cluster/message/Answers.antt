-- Cluster::message: the message of that number, which counts from 0.
use Rattle.std.proofs.Common.{List, All, sym, subst, rules}
use Rattle.sc_msg.specs.declared.message.Message.{Message}
use Rattle.sc_msg.specs.Lengths.{Fits}
use Rattle.q_history.specs.Headline.{ClusterState}
use Rattle.q_cluster.specs.contracts.cluster.Cluster as cluster
use Rattle.q_cluster.proofs.cluster.Cluster.message.Goals as goal

pub returns-clause-values : goal.returns-clause-values
returns-clause-values c =
    let v : ClusterState = cluster.the_view c.self.inside in
    let all : All (Fits v.version) v.past.sent =
    c.every_message_fits.ensures v.version v.past.config v.past.founders c.self.invariant.0 v c.self.invariant.2 c.self.invariant.1 in
    let there : All (Fits v.version) c.sent.result.now = subst (λ (ms : List Message). All (Fits v.version) ms) (sym c.sent.ensures) all in
    search rules
