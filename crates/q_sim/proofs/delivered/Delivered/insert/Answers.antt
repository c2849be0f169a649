-- Delivered::insert: puts a delivery into the set.
use Rattle.q_sim.proofs.Pairs.{one_more}
use Rattle.q_sim.proofs.delivered.Delivered.insert.Goals as goal

pub returns-clause-ok : goal.returns-clause-ok
returns-clause-ok c = one_more c.self.inside.pairs.keys c.insert.new.self.keys (c.args.message, c.args.node) _ c.self.view_is c.in_ok-insert.ensures.updates.0
