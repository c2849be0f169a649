-- Sessions::get: the operation, if it is open.
use Rattle.std.proofs.Common.{sym}
use Rattle.sc_operations.proofs.Tables.{at}
use Rattle.sc_operations.proofs.sessions.Sessions.get.Goals as goal

pub returns : goal.returns
returns c = sym (at c.self.inside.entries.entries c.args.self.now c.self.view_is c.args.tag _ c.get.ensures.value)
