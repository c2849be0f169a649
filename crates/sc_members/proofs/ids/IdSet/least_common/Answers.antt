-- IdSet::least_common: the least id that is in both sets.
use Rattle.sc_members.proofs.Sets.{in_intersection, first_copied, least_common}
use Rattle.sc_members.proofs.ids.IdSet.least_common.Goals as goal

pub returns : goal.returns
returns c =
    least_common c.args.self.now c.args.other.now c.intersection.result c.intersection.ensures.ordered
    (in_intersection c.held.result.now.keys c.held-2.result.now.keys _ _ c.held.ensures c.held-2.ensures c.intersection.result c.intersection.ensures.members)
    c.copied.result c.next.new.self
    (first_copied c.intersection.result c.next.result c.next.new.self c.copied.result c.next.ensures.steps c.copied.ensures)
