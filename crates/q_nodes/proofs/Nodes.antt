-- The books of nodes, one after the other.
use Rattle.std.proofs.Common.{◌≡◌, ℕ, ◌+◌, ◌<◌, ◌≤◌, List, length, Some, refl, sym, ◌∙◌, subst, arith, inl, inr, slice_get}
use Rattle.std.proofs.lemmas.Bool.{cases_lt}
use Rattle.std.proofs.lemmas.Option.{slice_get_within}
use Rattle.q_book.specs.State.{BookState}
use Rattle.q_history.proofs.Lists.{same_Some}
use Rattle.q_nodes.specs.Books.{AreBooksOf}
use Rattle.q_book.specs.Replays.{IsBookOf}

-- so many of the books are those of the first nodes
abbrev pub AreBooksBelow : List BookState → ℕ → Type 0
AreBooksBelow books n = (k : ℕ) (b : BookState) → k < n → slice_get books k ≡ Some b → IsBookOf (k + 1) b

pub book_next : (books : List BookState) (n : ℕ) (b : BookState) → AreBooksBelow books n → slice_get books n ≡ Some b → IsBookOf (n + 1) b
    → AreBooksBelow books (n + 1)
book_next books n b below at is k x lt at_k =
    elim (cases_lt k n) [
      | inl before ↦ below k x before at_k
      | inr behind ↦
          let e : k ≡ n = omega (arith, lt, behind) in
          let same : b ≡ x = same_Some b x (sym at ∙ subst (λ (i : ℕ). slice_get books i ≡ Some x) e at_k) in
          subst (λ (i : ℕ). IsBookOf (i + 1) x) (sym e) (subst (IsBookOf (n + 1)) same is)
    ]

pub all_books : (books : List BookState) (n : ℕ) → AreBooksBelow books n → length books ≤ n → AreBooksOf (length books) books
all_books books n below all = record { many = refl; each = λ k b at. below k b (omega (arith, all, slice_get_within books k b at)) at }
