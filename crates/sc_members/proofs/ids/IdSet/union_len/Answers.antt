-- IdSet::union_len: how many ids are in the one set or the other.
use Rattle.std.proofs.Common.{refl, ◌∙◌}
use Rattle.std.specs.FinSet as set
use Rattle.std.proofs.lemmas.Iterator.Consumers.{count_from_yields_List, YieldsList-from_rest}
use Rattle.sc_members.proofs.Sets.{len_of, in_union}
use Rattle.sc_members.proofs.ids.IdSet.union_len.Goals as goal

pub returns : goal.returns
returns c =
    count_from_yields_List _ c.count.result c.count.ensures.ran (YieldsList-from_rest c.union.result refl)
    ∙ len_of c.union.result (set.union c.args.self.now c.args.other.now) c.union.ensures.ordered
    (in_union c.held.result.now.keys c.held-2.result.now.keys _ _ c.held.ensures c.held-2.ensures c.union.result c.union.ensures.members)
