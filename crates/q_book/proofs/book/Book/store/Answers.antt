-- Book::store: begins to store a value of these bytes.
use Rattle.std.proofs.Common.{◌∙◌, ℕ, List, ap}
use Rattle.forms.specs.Calls.{mapped}
use Rattle.q_desk.specs.declared.journal.Call.TheVariants as call
use Rattle.q_desk.specs.declared.journal.Entry.TheVariants as entry
use Rattle.q_book.specs.Books.{stored, storing}
use Rattle.q_book.specs.State.{BookState}
use Rattle.q_book.specs.contracts.book.Book as book
use Rattle.q_book.specs.declared.reply.Reply.TheVariants as reply
use Rattle.q_book.proofs.Calls.{holds_inside, by_call, call_refused, test_refused, stores_call, stored_by}
use Rattle.q_book.proofs.Replays.{with, book_next}
use Rattle.q_book.proofs.book.Book.store.Goals as goal

pub returns-in_err-value : goal.returns-in_err-value
returns-in_err-value c =
    test_refused c.args.self.now (storing c.args.self.now c.args.bytes.now) c.args.bytes.now _ c.in_err-value.field-0.0 c.from_residual.result
    c.in_err-value.ensures c.from_residual.ensures.1

pub returns-in_err-begun : goal.returns-in_err-begun
returns-in_err-begun c =
    let b : BookState = book.the_view c.self.inside in
    let bytes : List ℕ = c.args.bytes.now in
    let said = stored_by b bytes c.in_ok-value.value (holds_inside (λ (x : BookState). storing x bytes) c.self.view_is c.in_ok-value.ensures) in
    call_refused (λ (x : BookState). stored x bytes) (stores_call b) c.from_residual-in_err-begun.result c.self.view_is said
    c.in_err-begun.ensures c.from_residual-in_err-begun.ensures.1

pub invariant_of-self-2 : goal.invariant_of-self-2
invariant_of-self-2 c =
    let b : BookState = book.the_view c.self.inside in
    let bytes : List ℕ = c.args.bytes.now in
    let said = stored_by b bytes c.in_ok-value.value (holds_inside (λ (x : BookState). storing x bytes) c.self.view_is c.in_ok-value.ensures) in
    book_next b (with b c.store.new.node c.store.new.self) (entry.Call (call.Store bytes)) c.self.invariant
    (reply.Stored bytes c.in_ok-begun.begun, ap (mapped (reply.Stored bytes)) (said ∙ ap (by_call (stores_call b)) c.in_ok-begun.ensures), tt)
