-- ask: a query.
use Rattle.std.proofs.Common.{ℕ, [], Err, refl, sym, ap, subst, append-nil}
use Rattle.forms.specs.Calls.{Steps}
use Rattle.q_book.specs.Books.{asked}
use Rattle.reasons.specs.declared.Reason.TheVariants.{OutOfMemory as memory}
use Rattle.q_net.specs.declared.replies.Reply.TheVariants.{Refused}
use Rattle.q_net.proofs.served.ask.Goals as goal

pub returns-in-Err : goal.returns-in-Err
returns-in-Err c =
    let b = c.args.book.now in
    let said = subst (λ (p : ℕ). Steps memory (asked b p c.args.start) b c.ask.new.self (Err c.in-Err.reason)) c.new.ensures c.in-Err.ensures in
    ([], (Err c.in-Err.reason, said, ap Refused c.number.ensures, refl), sym (append-nil c.args.sent.now.items))
