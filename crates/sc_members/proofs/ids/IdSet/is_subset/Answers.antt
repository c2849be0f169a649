-- IdSet::is_subset: whether all ids of the set are in the other.
use Rattle.sc_members.proofs.Sets.{subset_is}
use Rattle.sc_members.proofs.ids.IdSet.is_subset.Goals as goal

pub returns : goal.returns
returns c = subset_is c.held.result.now.keys c.held-2.result.now.keys _ _ c.held.ensures c.held-2.ensures c.is_subset.result c.is_subset.ensures
