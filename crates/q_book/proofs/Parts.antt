-- What the node and the desk did in a call that a book accepted.
use Rattle.std.proofs.Common.{◌≡◌, ℕ, true, false, List, length, sym, subst, Result, Ok}
use Rattle.std.proofs.lemmas.Bool.{not-true}
use Rattle.forms.specs.Calls.{Tests, tested}
use Rattle.forms.proofs.Calls.{same_answer, tested-ok, and_then-ok}
use Rattle.sc_view.specs.Values.{is_within}
use Rattle.sc_msg.specs.declared.message.Message.{Message}
use Rattle.sc_msg.specs.Lengths as message
use Rattle.sc_msg.specs.Values.{value_lengths}
use Rattle.sc_node.specs.State.{NodeState}
use Rattle.sc_node.specs.Nodes as node
use Rattle.sc_node.specs.declared.answer.Begun.{Begun}
use Rattle.sc_node.specs.declared.answer.Delivered.{Delivered}
use Rattle.reasons.specs.declared.Reason.{Reason}
use Rattle.q_desk.specs.State.{DeskState}
use Rattle.q_desk.specs.Desks as desk
use Rattle.q_desk.specs.declared.journal.Entry.{Entry}
use Rattle.q_desk.specs.declared.journal.Call.TheVariants as call
use Rattle.q_desk.specs.declared.journal.Entry.TheVariants as entry
use Rattle.q_book.specs.State.{BookState}
use Rattle.q_book.specs.Books as book
use Rattle.q_book.specs.declared.answer.Asked.{Asked}
use Rattle.q_book.specs.declared.answer.Delivery.{Delivery}

-- the node's part was accepted
pub by_node-ok : {A B : Type 0} (f : A → NodeState → B) (r : Result (A × NodeState) Reason) (z : B) → book.by_node f r ≡ Ok z
    → (a : A × NodeState) × (r ≡ Ok a) × (f a.0 a.1 ≡ z)
by_node-ok f r z h =
    let a = and_then-ok r (λ x n. Ok (f x n)) z h in
    (a.0, a.1, same_answer _ z a.2)

-- what the desk is after an entry that was noted
pub noted-ok : (d : DeskState) (e : Entry) (y : Unit {0} × DeskState) → desk.noted d e ≡ Ok y → (tt, desk.with_entry d e) ≡ y
noted-ok d e y h = same_answer _ y (tested-ok (desk.room d) _ y h).1

-- the desk had room for the entry
pub by_noted-ok : {B : Type 0} (f : Unit {0} → DeskState → Result B Reason) (d : DeskState) (e : Entry) (z : B) → book.by_desk f (desk.noted d e) ≡ Ok z
    → f tt (desk.with_entry d e) ≡ Ok z
by_noted-ok f d e z h =
    let a = and_then-ok (desk.noted d e) f z h in
    subst (λ (x : Unit {0} × DeskState). f x.0 x.1 ≡ Ok z) (sym (noted-ok d e a.0 a.1)) a.2

-- ---- what a book's node and its desk did

module _ (b : BookState) where
  -- the node had not left
  pub is_there : {B : Type 0} (r : Result B Reason) (z : B) → tested (book.present b) r ≡ Ok z → b.node.gone ≡ false
  is_there r z h = not-true b.node.gone (tested-ok (book.present b) r z h).0.0

  -- the desk noted the call, and the node did its part
  noting-ok : {A B : Type 0} (ts : Tests Reason) (f : DeskState → A → NodeState → B) (e : Entry) (r : Result (A × NodeState) Reason) (z : B)
      → tested ts (book.by_desk (λ u d. book.by_node (f d) r) (desk.noted b.desk e)) ≡ Ok z
      → (a : A × NodeState) × (r ≡ Ok a) × (f (desk.with_entry b.desk e) a.0 a.1 ≡ z)
  noting-ok ts f e r z h =
      by_node-ok (f (desk.with_entry b.desk e)) r z (by_noted-ok (λ u d. book.by_node (f d) r) b.desk e z (tested-ok ts _ z h).1)

  pub left-ok : (z : List Message × BookState) → book.left b ≡ Ok z
      → (a : List Message × NodeState) × (node.left b.node ≡ Ok a) × (book.leaves b (desk.with_entry b.desk (entry.Call call.Leave)) a.0 a.1 ≡ z)
  left-ok z h = noting-ok (book.present b) (book.leaves b) (entry.Call call.Leave) (node.left b.node) z h

  pub delivered-ok : (m : Message) (z : Delivery × BookState) → book.delivered b m ≡ Ok z
      → (a : Delivered × NodeState) × (node.delivered b.node m ≡ Ok a) × (book.delivers b (desk.with_entry b.desk (entry.Deliver m)) a.0 a.1 ≡ z)
  delivered-ok m z h = noting-ok (book.taking b m) (book.delivers b) (entry.Deliver m) (node.delivered b.node m) z h

  -- a message that was taken fits the book's version
  pub delivered-fits : (m : Message) (z : Delivery × BookState) → book.delivered b m ≡ Ok z → message.fits b.version m ≡ true
  delivered-fits m z h = (tested-ok (book.taking b m) _ z h).0.1.0

  pub stored-ok : (value : List ℕ) (z : Begun × BookState) → book.stored b value ≡ Ok z
      → (a : Begun × NodeState) × (node.store_begun b.node value ≡ Ok a) × (book.stores b (desk.with_entry b.desk (entry.Call (call.Store value))) a.0 a.1 ≡ z)
  stored-ok value z h = noting-ok (book.storing b value) (book.stores b) (entry.Call (call.Store value)) (node.store_begun b.node value) z h

  -- a value that was stored has a length of it
  pub stored-fits : (value : List ℕ) (z : Begun × BookState) → book.stored b value ≡ Ok z → is_within (length value) (value_lengths b.version) ≡ true
  stored-fits value z h = (tested-ok (book.storing b value) _ z h).0.1.1.0

  pub asked-ok : (program start : ℕ) (z : Asked × BookState) → book.asked b program start ≡ Ok z
      → (d : ℕ × DeskState) × (desk.asked b.desk b.node.operations program start ≡ Ok d)
      × (a : Begun × NodeState) × (node.collect_begun b.node ≡ Ok a) × (book.asks b d.0 d.1 a.0 a.1 ≡ z)
  asked-ok program start z h =
      let d = and_then-ok (desk.asked b.desk b.node.operations program start) (book.asks_node b) z (tested-ok (book.asking b program) _ z h).1 in
      let a = by_node-ok (book.asks b d.0.0 d.0.1) (node.collect_begun b.node) z d.2 in
      (d.0, d.1, a.0, a.1, a.2)

  -- a call of the desk alone
  pub desk-ok : {A : Type 0} (r : Result (A × DeskState) Reason) (z : A × BookState) → tested (book.present b) (book.by_desk (book.with_desk b) r) ≡ Ok z
      → (d : A × DeskState) × (r ≡ Ok d) × ((d.0, record b { desk = d.1 }) ≡ z)
  desk-ok r z h =
      let d = and_then-ok r (book.with_desk b) z (tested-ok (book.present b) _ z h).1 in
      (d.0, d.1, same_answer _ z d.2)
