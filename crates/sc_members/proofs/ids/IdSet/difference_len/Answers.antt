-- IdSet::difference_len: how many ids are in this set and not in the other.
use Rattle.std.proofs.Common.{refl, ◌∙◌}
use Rattle.std.proofs.lemmas.Iterator.Consumers.{count_from_yields_List, YieldsList-from_rest}
use Rattle.sc_members.proofs.Sets.{len_difference}
use Rattle.sc_members.proofs.ids.IdSet.difference_len.Goals as goal

pub returns : goal.returns
returns c =
    count_from_yields_List _ c.count.result c.count.ensures.ran (YieldsList-from_rest c.difference.result refl)
    ∙ len_difference c.held.result.now.keys c.held-2.result.now.keys _ _ c.held.ensures c.held-2.ensures c.difference.result
    c.difference.ensures.ordered c.difference.ensures.members
