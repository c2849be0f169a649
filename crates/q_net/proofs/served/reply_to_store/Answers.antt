-- reply_to_store: the same, where there may be no room.
use Rattle.q_net.proofs.Replied.{none_sent, stores_nothing}
use Rattle.q_net.proofs.served.reply_to_store.Goals as goal

pub returns-in-Err : goal.returns-in-Err
returns-in-Err c = none_sent _ _ c.reserve.ensures.items (stores_nothing c.args.book.now c.args.value.now)
