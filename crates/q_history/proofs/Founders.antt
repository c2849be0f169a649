-- The books of founders, before any event.
use Rattle.std.proofs.Common.{◌≡◌, ℕ, Bool, true, false, ◌==◌, ◌||◌, List, [], ◌∷◌, Some, refl, sym, ap, ◌∙◌, ◌⊎◌, inl, inr}
use Rattle.std.proofs.lemmas.Bool.{eq-eqb}
use Rattle.std.specs.Ordering.{nat_cmp}
use Rattle.std.specs.FinMap as fin
use Rattle.std.specs.FinSet as set
use Rattle.sc_members.specs.Members.{Config}
use Rattle.sc_msg.specs.declared.version.Version.{Version}
use Rattle.sc_node.specs.State.{NodeState}
use Rattle.sc_node.specs.Nodes.{founder}
use Rattle.sc_world.specs.Worlds.{nodes_with}
use Rattle.sc_world.proofs.Finite.{contains-insert}
use Rattle.q_book.specs.State.{BookState}
use Rattle.q_book.specs.Books.{new_book}
use Rattle.q_history.specs.Headline.{BookMap}
use Rattle.q_history.specs.World.{nodes_of}
use Rattle.q_history.specs.Clusters.{books_with}
use Rattle.q_history.proofs.Lists.{none-some}
use Rattle.q_history.proofs.Ops.{insert_get, insert_has, each_put}
use Rattle.q_history.proofs.World.{nodes-insert}
use Rattle.q_history.proofs.Kept.{IsAmong}

pub among_first : (id : ℕ) (ids : List ℕ) → IsAmong (id ∷ ids) id
among_first id ids = contains-insert (set.from_list ids) id id ∙ ap (λ (b : Bool). b || set.contains (set.from_list {R = nat_cmp} ids) id) (eq-eqb id id refl)

or_true : (b : Bool) → (b || true) ≡ true
or_true true = refl
or_true false = refl

pub among_rest : (p : ℕ) (ids : List ℕ) (id : ℕ) → IsAmong ids id → IsAmong (p ∷ ids) id
among_rest p ids id in' = contains-insert (set.from_list ids) p id ∙ ap (λ (b : Bool). (id == p) || b) in' ∙ or_true (id == p)

module _ (version : Version) (config : Config) (ids : List ℕ) where
  -- the book of a founder
  abbrev pub founder_book : ℕ → BookState
  founder_book id = new_book version id config (Some ids) (founder config ids id)

  -- a book before any event
  pub record IsFounder (id : ℕ) (b : BookState) : Type 0 where
    pub listed : IsAmong ids id
    pub is : founder_book id ≡ b

  -- each book is a founder's
  all_founders : (qs : List ℕ) (books : BookMap) → ((id : ℕ) → IsAmong qs id → IsAmong ids id)
      → ((id : ℕ) (b : BookState) → fin.get books id ≡ Some b → IsFounder id b) → (id : ℕ) (b : BookState)
      → fin.get (books_with version config ids books qs) id ≡ Some b → IsFounder id b
  all_founders [] books listed old id b at = old id b at
  all_founders (p ∷ qs) books listed old id b at =
      all_founders qs (fin.insert books p (founder_book p)) (λ i in'. listed i (among_rest p qs i in'))
      (each_put books p (founder_book p) IsFounder (record { listed = listed p (among_first p qs); is = refl }) old) id b at

  nowhere : (id : ℕ) (b : BookState) → fin.get (fin.empty {R = nat_cmp}) id ≡ Some b → IsFounder id b
  nowhere id b at = absurd (none-some b (sym (fin.get-empty nat_cmp id) ∙ at))

  pub every_founder : (id : ℕ) (b : BookState) → fin.get (books_with version config ids fin.empty ids) id ≡ Some b → IsFounder id b
  every_founder = all_founders ids fin.empty (λ i in'. in') nowhere

  -- a book is there, or comes with one of these founders
  abbrev Comes : BookMap → List ℕ → ℕ → Type 0
  Comes books qs id = ((b : BookState) × (fin.get books id ≡ Some b)) ⊎ IsAmong qs id

  comes_next : (p : ℕ) (qs : List ℕ) (books : BookMap) (id : ℕ) (b : Bool) → (id == p) ≡ b → (b || set.contains (set.from_list {R = nat_cmp} qs) id) ≡ true
      → Comes (fin.insert books p (founder_book p)) qs id
  comes_next p qs books id true is h = inl (founder_book p, insert_get books p (founder_book p) id true is)
  comes_next p qs books id false is h = inr h

  -- each founder is there
  pub founder_there : (qs : List ℕ) (books : BookMap) (id : ℕ) → Comes books qs id
      → (b : BookState) × (fin.get (books_with version config ids books qs) id ≡ Some b)
  founder_there [] books id (inl h) = h
  founder_there [] books id (inr h) = let none : false ≡ true = sym (set.contains-empty nat_cmp id) ∙ h in absurd (cc)
  founder_there (p ∷ qs) books id (inl h) =
      founder_there qs (fin.insert books p (founder_book p)) id (inl (insert_has books p (founder_book p) id h.0 (id == p) refl h.1))
  founder_there (p ∷ qs) books id (inr h) =
      founder_there qs (fin.insert books p (founder_book p)) id (comes_next p qs books id (id == p) refl (sym (contains-insert (set.from_list qs) p id) ∙ h))

  -- their nodes are the founders of a world
  pub founder_nodes : (qs : List ℕ) (books : BookMap) → nodes_of (books_with version config ids books qs) ≡ nodes_with config ids (nodes_of books) qs
  founder_nodes [] books = refl
  founder_nodes (p ∷ qs) books =
      founder_nodes qs (fin.insert books p (founder_book p))
      ∙ ap (λ (m : fin.FinMap nat_cmp NodeState). nodes_with config ids m qs) (nodes-insert books p (founder_book p))
