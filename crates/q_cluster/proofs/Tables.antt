-- A table of books, as it is once a book that it lent is given back.
use Rattle.std.proofs.Common.{◌≡◌, Option, Some, None, IsSome, MutBor, inl, inr, refl, ap}
use Rattle.std.specs.Option.{option_copied_mut, ghost_name_of}
use Rattle.q_book.specs.State.{BookState}
use Rattle.q_history.specs.Headline.{BookMap}
use borrow.Follows.Closed.{read_of}

-- a table is what its lender says of it
pub lent : (r : Option (MutBor BookState)) {f g : BookState → BookMap} {old new : BookMap} → (IsSome (option_copied_mut r) → (b : BookState) → f b ≡ g b)
    → old ≡ new → read_of (ghost_name_of r) f old ≡ read_of (ghost_name_of r) g new
lent None writes same = ap inr same
lent (Some b) writes same = λ i. inl (b.ghost_name, λ n. writes refl n i)
