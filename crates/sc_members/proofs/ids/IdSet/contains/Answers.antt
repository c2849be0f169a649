-- IdSet::contains: whether the id is in the set.
use Rattle.std.proofs.Common.{sym, ap, ◌∙◌}
use Rattle.std.specs.FinSet as set
use Rattle.sc_members.specs.Ids.{Ids}
use Rattle.sc_members.proofs.Sets.{found}
use Rattle.sc_members.proofs.ids.IdSet.contains.Goals as goal

pub returns : goal.returns
returns c = c.contains.ensures ∙ sym (found c.held.result.now.keys c.args.id) ∙ ap (λ (s : Ids). set.contains s c.args.id) c.held.ensures
