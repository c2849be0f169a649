-- Book::leave: leaves for good: every later call that changes something is refused with 42.
use Rattle.std.proofs.Common.{◌∙◌, ap}
use Rattle.forms.specs.Calls.{mapped}
use Rattle.q_desk.specs.declared.journal.Call.TheVariants as call
use Rattle.q_desk.specs.declared.journal.Entry.TheVariants as entry
use Rattle.q_book.specs.Books.{left, present}
use Rattle.q_book.specs.State.{BookState}
use Rattle.q_book.specs.contracts.book.Book as book
use Rattle.q_book.specs.declared.reply.Reply.TheVariants as reply
use Rattle.q_book.proofs.Calls.{holds_inside, by_call, call_refused, leaves_call, left_by}
use Rattle.q_book.proofs.Replays.{with, book_next}
use Rattle.q_book.proofs.book.Book.leave.Goals as goal

pub returns-in_err-outs : goal.returns-in_err-outs
returns-in_err-outs c =
    let b : BookState = book.the_view c.self.inside in
    let said = left_by b (holds_inside present c.self.view_is c.in_ok-check_here.ensures).1 in
    call_refused left (leaves_call b) c.from_residual-in_err-outs.result c.self.view_is said c.in_err-outs.ensures c.from_residual-in_err-outs.ensures.1

pub invariant_of-self-2 : goal.invariant_of-self-2
invariant_of-self-2 c =
    let b : BookState = book.the_view c.self.inside in
    let said = left_by b (holds_inside present c.self.view_is c.in_ok-check_here.ensures).1 in
    book_next b (with b c.leave.new.node c.leave.new.self) (entry.Call call.Leave) c.self.invariant
    (reply.Left c.in_ok-outs.outs, ap (mapped reply.Left) (said ∙ ap (by_call (leaves_call b)) c.in_ok-outs.ensures), tt)
