-- heads_are_beginnings: so is a head alone, without any entry; and heads alone hold what they deliver, which is
-- nothing.
use Rattle.q_gather.proofs.BookHeads.{head_begun, heads_hold, head_gives}
use Rattle.q_gather.proofs.worked.heads_are_beginnings.Goals as goal

pub returns : goal.returns
returns c = record { one = head_begun; all = heads_hold; enter = head_gives }
