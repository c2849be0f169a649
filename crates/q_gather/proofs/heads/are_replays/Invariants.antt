use Rattle.q_desk.specs.Answers.{AnswersAreRight}
use Rattle.q_book.specs.State.{BookState}
use Rattle.q_book.specs.Replays.{IsReplay}
use Rattle.q_gather.proofs.Finding.{Below}
use Rattle.q_gather.proofs.heads.are_replays.Given as goal

abbrev pub invariant-loop-book : goal.invariant-loop-book
invariant-loop-book l = Below (λ (b : BookState). IsReplay b × AnswersAreRight b.desk) l.books l.book-index
