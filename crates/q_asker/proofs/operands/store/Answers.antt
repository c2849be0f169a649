-- store: the line `store` with this value.
use Rattle.q_asker.proofs.Scripts.{no_store}
use Rattle.q_asker.proofs.operands.store.Goals as goal

pub returns-in-Err : goal.returns-in-Err
returns-in-Err c = no_store c.args.text.now c.in-Err.fault c.in-Err.ensures
