-- reply: does what a request asks, and puts the messages of the book behind those that were sent.
use Rattle.std.proofs.Common.{refl}
use Rattle.q_net.specs.declared.request.Request.TheVariants.{Store, StoreOf}
use Rattle.q_net.proofs.Replied.{none_sent, registers_replies, asks_nothing, store_replies}
use Rattle.q_net.proofs.served.reply.Goals as goal

pub returns-in-Register : goal.returns-in-Register
returns-in-Register c =
    none_sent _ _ refl (registers_replies c.args.book.now c.register-registered.new.book c.register-registered.result c.in-Register.is
    c.as_slice.ensures c.as_slice-in-Register.ensures c.register-registered.ensures c.reply_to_registered.ensures)

pub returns-in-Err : goal.returns-in-Err
returns-in-Err c = none_sent _ _ c.reserve.ensures.items (asks_nothing c.args.book.now c.args.request.now c.in-Ask.program c.in-Ask.start c.in-Ask.is)

pub returns-in-Store : goal.returns-in-Store
returns-in-Store c =
    store_replies Store c.args.book.now c.reply_to_store.new.book c.args.sent.now.items c.reply_to_store.new.sent.items c.reply_to_store.result
    c.in-Store.is c.bytes.ensures.exact c.reply_to_store.ensures

pub returns-in-StoreOf : goal.returns-in-StoreOf
returns-in-StoreOf c =
    let done = c.reply_to_store-in-StoreOf in
    store_replies StoreOf c.args.book.now done.new.book c.args.sent.now.items done.new.sent.items done.result
    c.in-StoreOf.is c.as_slice-in-StoreOf.ensures done.ensures
