-- Book::hand_out: hands out the job of the ready query with the least number; none where no query is ready, also
-- where the journal is full.
use Rattle.q_book.specs.Books.{present}
use Rattle.q_book.specs.State.{BookState}
use Rattle.q_book.specs.contracts.book.Book as book
use Rattle.q_book.proofs.Calls.{holds_inside, handed_book}
use Rattle.q_book.proofs.book.Book.hand_out.Goals as goal

pub invariant_of-self-2 : goal.invariant_of-self-2
invariant_of-self-2 c =
    let b : BookState = book.the_view c.self.inside in
    let hold = (holds_inside present c.self.view_is c.in_ok-check_here.ensures).1 in
    handed_book b c.in_ok-job.job c.hand_out.new.self hold c.in_ok-job.ensures c.self.invariant
