use Rattle.std.proofs.Common.{◌≡◌}
use Rattle.q_book.specs.State.{BookState}
use Rattle.q_gather.proofs.Finding.{Below}
use Rattle.q_gather.proofs.heads.has_book.Given as goal

abbrev pub invariant-loop-book : goal.invariant-loop-book
invariant-loop-book l = Below (λ (b : BookState). b.id ≡ l.id → ⊥) l.books l.book-index
