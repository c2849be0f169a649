-- offer_next: hands out the next job and offers it.
use Rattle.q_board.proofs.pump.offer_next.Goals as goal

pub returns-in-Ok-clause-offered : goal.returns-in-Ok-clause-offered
returns-in-Ok-clause-offered c =
    let handed = rw c.in-Ok-Some.field-0-is at c.in-Ok-Some.ensures in
    (c.in-Ok-Some.job, c.in-Ok.field-0.index, handed, c.in-Ok.ensures.offered, c.in-Ok.ensures.count)
