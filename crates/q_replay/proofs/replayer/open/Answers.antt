-- open: the book before the first event, and the bytes of the events.
use Rattle.q_replay.proofs.Leading.{leads_start}
use Rattle.q_replay.proofs.replayer.open.Goals as goal

pub returns-in-Ok-begin-clause-leads : goal.returns-in-Ok-begin-clause-leads
returns-in-Ok-begin-clause-leads c =
    leads_start c.args.bytes.now c.in-Ok.read.0 c.in-Ok-begin.book c.in-Ok.read.1.now c.in-Ok.ensures.legal c.in-Ok-begin.ensures c.in-Ok.ensures.parts
