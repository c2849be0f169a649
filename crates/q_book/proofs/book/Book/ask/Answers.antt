-- Book::ask: a query begins, and with it a collect.
use Rattle.std.proofs.Common.{◌∙◌, ap}
use Rattle.forms.specs.Calls.{mapped}
use Rattle.q_desk.specs.declared.journal.Call.TheVariants as call
use Rattle.q_desk.specs.declared.journal.Entry.TheVariants as entry
use Rattle.q_book.specs.Books.{asked, asking}
use Rattle.q_book.specs.State.{BookState}
use Rattle.q_book.specs.contracts.book.Book as book
use Rattle.q_book.specs.declared.reply.Reply.TheVariants as reply
use Rattle.q_book.proofs.Calls.{holds_inside, by_call, call_refused, asks_call, asked_by}
use Rattle.q_book.proofs.Replays.{with, book_next}
use Rattle.q_book.proofs.book.Book.ask.Goals as goal

pub returns-in_err-query : goal.returns-in_err-query
returns-in_err-query c =
    let b : BookState = book.the_view c.self.inside in
    let hold = (holds_inside (λ (x : BookState). asking x c.args.program) c.self.view_is c.in_ok-check_asking.ensures).1 in
    call_refused (λ (x : BookState). asked x c.args.program c.args.start) (asks_call b) c.from_residual-in_err-query.result c.self.view_is
    (asked_by b c.args.program c.args.start hold) c.in_err-query.ensures c.from_residual-in_err-query.ensures.1

pub invariant_of-self-2 : goal.invariant_of-self-2
invariant_of-self-2 c =
    let b : BookState = book.the_view c.self.inside in
    let hold = (holds_inside (λ (x : BookState). asking x c.args.program) c.self.view_is c.in_ok-check_asking.ensures).1 in
    book_next b (with b c.ask.new.node c.ask.new.self) (entry.Call (call.Ask c.args.program c.args.start)) c.self.invariant (
      reply.Asked (record { query = c.in_ok-query.query; begun = c.in_ok-query.begun }),
      ap (mapped reply.Asked) (asked_by b c.args.program c.args.start hold ∙ ap (by_call (asks_call b)) c.in_ok-query.ensures),
      tt,
    )
