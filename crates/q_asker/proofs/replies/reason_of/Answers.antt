-- reason_of: the reason of this number, if there is one.
use Rattle.std.proofs.Common.{◌∙◌, ◌<◌, ap, rules, arith}
use Rattle.reasons.specs.Table as table
use Rattle.q_asker.proofs.replies.reason_of.Goals as goal

pub returns : goal.returns
returns c = λ why is.
    let there = c.all-reason-items.ensures.each why in
    let below : there.0 < c.loop-reason.reason-index = first_of (search rules, omega arith) in
    c.loop-reason.invariant there.0 why below (ap table.number there.2 ∙ is)
