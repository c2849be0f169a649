-- IdSet::len: how many ids are in the set.
use Rattle.std.proofs.Common.{sym, ap, ◌∙◌}
use Rattle.std.specs.FinSet as set
use Rattle.sc_members.specs.Ids.{Ids}
use Rattle.sc_members.proofs.Sets.{len-from_list}
use Rattle.sc_members.proofs.ids.IdSet.len.Goals as goal

pub returns-clause-count : goal.returns-clause-count
returns-clause-count c = c.len.ensures.len ∙ sym (len-from_list _ c.len.ensures.ordered) ∙ ap (λ (s : Ids). set.len s) c.held.ensures
