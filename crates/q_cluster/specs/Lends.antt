-- What a table of books is once a book that it lent is given back.
use Rattle.std.specs.Prelude.{ℕ, Option}
use Rattle.std.specs.Borrow.{LendsIf, MutBor, Fml}
use Rattle.std.specs.FinMap as fin
use Rattle.q_book.specs.State.{BookState}
use Rattle.q_book.specs.contracts.book.Book.{the_row as book_row}
use Rattle.q_history.specs.Headline.{BookMap}
use Rattle.q_cluster.specs.contracts.books.Books.{the_row}

-- the book of that id is what r was left as, and the others are as they were; at None all are
abbrev pub LendsBook : MutBor BookMap → ℕ → Option (MutBor BookState) → Fml
LendsBook s id r = LendsIf the_row book_row s r (fin.insert s.now id) s.now
