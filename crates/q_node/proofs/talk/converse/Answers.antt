-- converse: obeys the lines of the console until the node ends, and writes what is said to each.
use Rattle.std.proofs.Common.{[], refl, rules}
use Rattle.std.proofs.KnownBytes.{Appends-nil}
use Rattle.q_outside.proofs.Writing.{behind}
use Rattle.q_node.proofs.Conversing.{said_more}
use Rattle.q_node.proofs.talk.converse.Goals as goal

pub loop-init : goal.loop-init
loop-init g c = (tt, tt, ([], tt, Appends-nil _), refl)

pub returns-in-Err-clause-said : goal.returns-in-Err-clause-said
returns-in-Err-clause-said g c = behind _ _ _ _ c.loop.invariant.2.2 c.in-Err.ensures.failed

pub loop-preserved : goal.loop-preserved
loop-preserved g c = (tt, tt, said_more _ _ _ _ _ c.loop.invariant.2 c.in-Some-obey.ensures.said c.in-Ok.ensures.written, search rules)
