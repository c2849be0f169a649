use Rattle.q_book.specs.State.{BookState}
use Rattle.q_gather.specs.Heads.{IsHeaded}
use Rattle.q_gather.proofs.Finding.{Below}
use Rattle.q_gather.proofs.heads.are_headed.Given as goal

abbrev pub invariant-loop-book : goal.invariant-loop-book
invariant-loop-book l = Below (λ (b : BookState). IsHeaded b l.version l.config l.founders) l.books l.book-index
