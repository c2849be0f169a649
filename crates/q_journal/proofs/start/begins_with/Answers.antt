-- begins_with: whether bytes begin with these
use Rattle.q_journal.proofs.Finding.{begins_by}
use Rattle.std.proofs.Common.{sym}
use Rattle.q_journal.proofs.start.begins_with.Goals as goal

pub returns : goal.returns
returns c = begins_by _ c.args.bytes.now c.args.front.now (sym c.starts_with.ensures.value)
