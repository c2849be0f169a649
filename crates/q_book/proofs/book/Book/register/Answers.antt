-- Book::register: registers a program; a text that is there keeps its id.
use Rattle.q_book.specs.Books.{present}
use Rattle.q_book.specs.State.{BookState}
use Rattle.q_book.specs.contracts.book.Book as book
use Rattle.q_book.proofs.Calls.{holds_inside, registered_book}
use Rattle.q_book.proofs.book.Book.register.Goals as goal

pub invariant_of-self-2 : goal.invariant_of-self-2
invariant_of-self-2 c =
    let b : BookState = book.the_view c.self.inside in
    let hold = (holds_inside present c.self.view_is c.in_ok-check_here.ensures).1 in
    registered_book b c.args.program.now c.in_ok-id.id c.register.new.self hold c.in_ok-id.ensures c.self.invariant
