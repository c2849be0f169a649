-- No book refuses a store with 81: that there is no such node is said by those who look for it.
use Rattle.std.proofs.Common.{◌≡◌, ◌≢◌, ℕ, List, [], ◌∷◌, ◌++◌, Bool, true, false, cond, sym, ap, Result, Ok, Err}
use Rattle.forms.specs.Calls.{Tests, tested, and_then}
use Rattle.forms.proofs.Calls.{no_refusal, same_fault}
use Rattle.reasons.specs.declared.Reason.TheVariants as reasons
use Rattle.sc_node.specs.Nodes as node
use Rattle.sc_node.specs.State.{NodeState}
use Rattle.q_desk.specs.Desks as desk
use Rattle.q_desk.specs.declared.journal.Call.TheVariants as call
use Rattle.q_desk.specs.declared.journal.Entry.TheVariants as entry
use Rattle.q_book.specs.State.{BookState}
use Rattle.q_book.specs.Books as book

-- none of these tests has the fault
abbrev HaveNot : {E : Type 0} → E → Tests E → Type 0
HaveNot e [] = Unit {0}
HaveNot e (t ∷ ts) = (t.1 ≢ e) × HaveNot e ts

-- a test that does not hold tells its own fault
by_test : {A E : Type 0} (e f : E) (r : Result A E) (b : Bool) → f ≢ e → (r ≡ Err e → ⊥) → cond b r (Err f) ≡ Err e → ⊥
by_test e f r true other rest h = rest h
by_test e f r false other rest h = other (same_fault f e h)

-- tests that have not the fault do not tell it
not_tested : {A E : Type 0} (e : E) (ts : Tests E) (r : Result A E) → HaveNot e ts → (r ≡ Err e → ⊥) → tested ts r ≡ Err e → ⊥
not_tested e [] r others rest h = rest h
not_tested e (t ∷ ts) r others rest h = by_test e t.1 (tested ts r) t.0 others.0 (not_tested e ts r others.1 rest) h

-- an accepted answer is none
accepted : {A E : Type 0} (e : E) {x : A} → (let r : Result A E = Ok x in r) ≡ Err e → ⊥
accepted e h = no_refusal e _ (sym h)

-- nor do parts that do not
not_then : {S A B E : Type 0} (e : E) (r : Result (A × S) E) (rest : A → S → Result B E) → (r ≡ Err e → ⊥) → ((a : A) (s : S) → rest a s ≡ Err e → ⊥)
    → and_then r rest ≡ Err e → ⊥
not_then e (Ok a) rest first later h = later a.0 a.1 h
not_then {S} {A} e (Err f) rest first later h = first (ap (λ x. let r : Result (A × S) _ = Err x in r) (same_fault f e h))

pub store_finds_a_node : (b : BookState) (value : List ℕ) → book.stored b value ≡ Err reasons.NoSuchNode → ⊥
store_finds_a_node b value h =
    not_tested reasons.NoSuchNode (book.storing b value) _ ((λ e. absurd cc), ((λ e. absurd cc), ((λ e. absurd cc), ((λ e. absurd cc), tt))))
    (not_then reasons.NoSuchNode (desk.noted b.desk (entry.Call (call.Store value))) (book.stores_node b value)
    (not_tested reasons.NoSuchNode (desk.room b.desk) _ ((λ e. absurd cc), tt) (accepted reasons.NoSuchNode))
    (λ u d. not_then reasons.NoSuchNode (node.store_begun b.node value) _ (not_begun b.node value) (λ a n. accepted reasons.NoSuchNode))) h
  where
    not_begun : (n : NodeState) (value : List ℕ) → node.store_begun n value ≡ Err reasons.NoSuchNode → ⊥
    not_begun n value =
        not_tested reasons.NoSuchNode (node.opening n ++ node.fitting (node.stored_view n value)) _
        ((λ e. absurd cc), ((λ e. absurd cc), ((λ e. absurd cc), ((λ e. absurd cc), ((λ e. absurd cc), tt))))) (accepted reasons.NoSuchNode)
