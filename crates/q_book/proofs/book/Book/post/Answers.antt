-- Book::post: records the result of a job as its query's answer.
use Rattle.q_book.specs.Books.{present}
use Rattle.q_book.specs.State.{BookState}
use Rattle.q_book.specs.contracts.book.Book as book
use Rattle.q_book.proofs.Calls.{holds_inside, posted_book}
use Rattle.q_book.proofs.book.Book.post.Goals as goal

pub invariant_of-self-2 : goal.invariant_of-self-2
invariant_of-self-2 c =
    let b : BookState = book.the_view c.self.inside in
    let hold = (holds_inside present c.self.view_is c.in_ok-check_here.ensures).1 in
    posted_book b c.args.done.now.job c.args.done.now.ran c.post.new.self hold c.in_ok-post.ensures c.job-job.ensures.right c.self.invariant
