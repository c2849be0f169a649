-- store: a store of these bytes.
use Rattle.std.proofs.Common.{[], Err, refl, sym, ap, append-nil}
use Rattle.q_net.specs.declared.replies.Reply.TheVariants.{Refused}
use Rattle.q_net.proofs.served.store.Goals as goal

pub returns-in-Err : goal.returns-in-Err
returns-in-Err c =
    ([], (Err c.in-Err.reason, c.in-Err.ensures, ap Refused c.number.ensures, refl), sym (append-nil c.args.sent.now.items))
