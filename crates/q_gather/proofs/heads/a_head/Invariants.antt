use Rattle.std.proofs.Common.{◌≡◌, None}
use Rattle.q_book.specs.State.{BookState}
use Rattle.q_gather.proofs.Finding.{Below}
use Rattle.q_gather.proofs.heads.a_head.Given as goal

abbrev pub invariant-loop-book : goal.invariant-loop-book
invariant-loop-book l = Below (λ (b : BookState). b.founders ≡ None) l.books l.book-index
