-- ready_for: the place of the record that an answer of this sender may move, and the set of its senders.
use Rattle.std.proofs.Common.{◌∙◌, ap}
use Rattle.std.proofs.lemmas.Option.{get_or_from_slice_get}
use Rattle.std.specs.FinSet as set
use Rattle.sc_operations.specs.declared.session.Phase.{Phase}
use Rattle.sc_node.specs.Sessions.{open_phase}
use Rattle.sc_world.specs.declared.op.Op.{Op}
use Rattle.sc_world.proofs.counting.ready_for.Goals as goal

pub returns : goal.returns
returns c =
    let h = c.in-Some.ensures.found in
    let same = get_or_from_slice_get c.args.ops.now c.in-Some.at h.0 c.index-ops-at.result h.2 in
    let counted = c.in_ok-counted.ensures ∙ ap (λ (p : Phase). set.insert p.counted c.args.sender) c.open_phase.ensures in
    (h.0, h.1, h.2, counted ∙ ap (λ (o : Op). set.insert (open_phase o.session).counted c.args.sender) same)
