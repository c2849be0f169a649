-- IdSet::iter: the ids in rising order.
use Rattle.std.proofs.Common.{sym, ap, ◌∙◌}
use Rattle.sc_members.specs.Ids.{rising}
use Rattle.sc_members.proofs.Sets.{rising-from_list}
use Rattle.sc_members.proofs.ids.IdSet.iter.Goals as goal

pub returns : goal.returns
returns c = c.iter.ensures.rest ∙ sym (rising-from_list _ c.iter.ensures.ordered) ∙ ap rising c.held.ensures
