-- What books of nodes that run in threads have, and what their calls come to. Which book of a node it is no contract of
-- its lock says: it is the replay of its journal.
use Rattle.std.specs.Prelude.{◌≡◌, ◌≢◌, ℕ, ◌+◌, ◌-◌, List, length, Option, Result, Some, None, Ok, Err, slice_get}
use Rattle.bq_check.specs.Certificate.{Certificate}
use Rattle.sc_node.specs.declared.answer.Begun.{Begun}
use Rattle.q_session.specs.declared.ran.Ran.{Ran}
use Rattle.q_desk.specs.Desks.{answer_of}
use Rattle.reasons.specs.declared.Reason.{Reason}
use Rattle.q_book.specs.State.{BookState}
use Rattle.q_book.specs.Books.{asked, registered, stored}
use Rattle.q_book.specs.Replays.{IsBookOf}
use Rattle.reasons.specs.declared.Reason.TheVariants.{OutOfMemory as memory}
use Rattle.q_book.specs.declared.answer.Asked.{Asked}
use Rattle.q_nodes.specs.declared.lock.NodeCall.{NodeCall}
use Rattle.q_nodes.specs.declared.lock.NodeCall.TheVariants as call
use Rattle.q_nodes.specs.declared.outcome.Outcome.{Outcome}
use Rattle.q_nodes.specs.declared.outcome.Outcome.TheVariants as outcome
use Rattle.q_nodes.specs.Faults.{of_fault}

-- the books of so many nodes, whose ids are 1 to their number, in their order
pub record AreBooksOf (nodes : ℕ) (books : List BookState) : Type 0 where
  pub many : length books ≡ nodes
  pub each : (k : ℕ) (b : BookState) → slice_get books k ≡ Some b → IsBookOf (k + 1) b

-- the book of a node among those of all nodes
abbrev pub own_book : List BookState → ℕ → Option BookState
own_book books node = slice_get books (node - 1)

abbrev pub answer_or_none : Result (Option Ran) Reason → Option Ran
answer_or_none (Ok answer) = answer
answer_or_none (Err f) = None

-- the recorded answer of a query in a book, if there is one
abbrev pub recorded : BookState → ℕ → Option Ran
recorded b query = answer_or_none (answer_of b.desk query)

-- what a call of a book of this node came to: it was refused with what the book refuses it with, or accepted and
-- answered so
abbrev pub Calls : {A : Type 0} → (A → Outcome) → ℕ → (BookState → Result (A × BookState) Reason) → Outcome → Type 0
Calls told node said (outcome.Refused r) = (b : BookState) × (f : Reason) × IsBookOf node b × (r ≡ of_fault f) × (f ≢ memory → said b ≡ Err f)
Calls {A} told node said o = (b c : BookState) × (a : A) × IsBookOf node b × (said b ≡ Ok (a, c)) × (o ≡ told a)

abbrev pub Registers : ℕ → Certificate → Outcome → Type 0
Registers node program = Calls (λ (id : ℕ). outcome.Registered id) node (λ b. registered b program)

abbrev pub BeginsStore : ℕ → List ℕ → Outcome → Type 0
BeginsStore node value = Calls (λ (a : Begun). outcome.Stored a.tag) node (λ b. stored b value)

abbrev pub BeginsQuery : ℕ → ℕ → ℕ → Outcome → Type 0
BeginsQuery node program start = Calls (λ (a : Asked). outcome.Asked a.query) node (λ b. asked b program start)

abbrev pub CallIs : ℕ → NodeCall → Outcome → Type 0
CallIs node (call.Register program) = Registers node program.now
CallIs node (call.Store value) = BeginsStore node value.now
CallIs node (call.Ask program start) = BeginsQuery node program start
