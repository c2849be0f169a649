-- own_stays: a law: a book that grows stays the node's, and its file that of its journal.
use Rattle.q_node.proofs.Owned.{own_stays}
use Rattle.q_node.proofs.own.own_stays.Goals as goal

pub returns : goal.returns
returns c node first b d r g own = own_stays node first b d r r g own (c.recorded_stays.ensures first b d r g)
