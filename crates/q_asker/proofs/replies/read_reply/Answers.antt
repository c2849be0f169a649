-- read_reply: the reply that stands at the front of an input, one of this kind or a refusal; or none.
use Rattle.q_asker.proofs.Heard.{heard, heard_there}
use Rattle.q_asker.proofs.replies.read_reply.Goals as goal

pub returns-clause-read : goal.returns-clause-read
returns-clause-read g c = heard c.args.kind _ _ c.read_first.result c.read_first.ensures.read

pub returns-clause-exact : goal.returns-clause-exact
returns-clause-exact g c = heard_there c.args.kind _ _ c.read_first.result c.read_first.ensures.read
