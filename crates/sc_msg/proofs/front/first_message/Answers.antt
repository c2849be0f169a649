-- first_message: the message that stands first in at most 60,000 bytes, and the bytes behind it; or what is first
-- wrong up to there.
use Rattle.sc_msg.proofs.Unique.{head_is_right}
use Rattle.sc_msg.proofs.Whole.{whole}
use Rattle.sc_msg.proofs.front.first_message.Goals as goal

pub returns-in_err-body-clause-head : goal.returns-in_err-body-clause-head
returns-in_err-body-clause-head c = head_is_right c.args.version _ c.in_ok-kind.kind c.in_ok-kind.from _ c.in_ok-kind.ensures.small c.in_ok-kind.ensures.parts

pub returns-clause-head : goal.returns-clause-head
returns-clause-head c = head_is_right c.args.version _ c.in_ok-kind.kind c.in_ok-kind.from _ c.in_ok-kind.ensures.small c.in_ok-kind.ensures.parts

pub returns-clause-parts : goal.returns-clause-parts
returns-clause-parts c = whole c.args.version c.in_ok-kind.kind c.in_ok-kind.from c.in_ok-body.body c.in_ok-kind.ensures.parts c.in_ok-body.ensures.body
