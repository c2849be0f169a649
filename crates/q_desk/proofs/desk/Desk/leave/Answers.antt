-- Desk::leave: the node leaves for good.
use Rattle.std.proofs.Common.{rules}
use Rattle.q_desk.specs.declared.journal.Call.TheVariants as call
use Rattle.q_desk.specs.declared.journal.Entry.TheVariants as entry
use Rattle.q_desk.proofs.Keeps.{desk-appended}
use Rattle.q_desk.proofs.desk.Desk.leave.Goals as goal

pub invariant_of-self-2 : goal.invariant_of-self-2
invariant_of-self-2 c = (
  desk-appended _ (entry.Call call.Leave) _ (record { room = search rules; is = search rules }) c.self.invariant.0,
  record { counted = c.self.invariant.1.counted; fits = search rules },
)
