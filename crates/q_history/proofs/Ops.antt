-- What an event of a world keeps of its operations, and what it adds.
use Rattle.std.proofs.Common.{◌≡◌, ℕ, Bool, true, false, cond, ◌==◌, List, map, Option, Some, None, refl, sym, ap, ◌∙◌, subst}
use Rattle.std.proofs.lemmas.Bool.{eqb-true}
use Rattle.std.specs.Ordering.{nat_cmp}
use Rattle.std.specs.Cmp.{nat_cmp_total}
use Rattle.std.specs.FinMap as fin
use Rattle.sc_view.specs.Views.{ViewMap}
use Rattle.sc_operations.specs.declared.session.OperationKind.{OperationKind}
use Rattle.sc_operations.specs.declared.session.OperationKind.TheVariants as kind
use Rattle.sc_operations.specs.declared.progress.Progress.{Progress}
use Rattle.sc_node.specs.Sessions.{kind_of, stored}
use Rattle.sc_world.specs.declared.event.WorldEvent.{WorldEvent}
use Rattle.sc_world.specs.declared.op.Op.{Op}
use Rattle.sc_world.specs.State.{WorldState}
use Rattle.sc_world.specs.Worlds.{clock, Outcome, advanced, op_begun, after}
use Rattle.sc_world.specs.Records.{Among}
use Rattle.sc_world.specs.Operations.{returned_by, returned}
use Rattle.sc_world.proofs.Finite.{get-insert}
use Rattle.forms.proofs.Lists.{among_left}
use Rattle.sc_world.proofs.Steps.{among-image, advance_op}
use Rattle.sc_world.proofs.Telling.{same_start}
use Rattle.q_history.proofs.Lists.{same_Some}

-- the operation is there later, and what it returned it returned for good
pub record IsLater (ops : List Op) (o : Op) : Type 0 where
  pub op : Op
  pub among : Among op ops
  pub by : op.node ≡ o.node
  pub tagged : op.tag ≡ o.tag
  pub returned : (v : ViewMap) → returned o ≡ Some v → returned op ≡ Some v

-- no record is lost from one list of them to another
abbrev pub IsOnward : List Op → List Op → Type 0
IsOnward ops later = (o : Op) → Among o ops → IsLater later o

pub onward_itself : (ops : List Op) → IsOnward ops ops
onward_itself ops o in' = record { op = o; among = in'; by = refl; tagged = refl; returned = λ v h. h }

none_returned : (k : OperationKind) (view : Option ViewMap) → returned_by k None view ≡ None
none_returned (kind.Store e) view = refl
none_returned kind.Collect view = refl

-- an operation that has not ended has returned nothing
open_returns : (o : Op) (v : ViewMap) → o.end ≡ None → returned o ≡ Some v → ⊥
open_returns o v running h =
    let none = ap (λ (x : Option ℕ). returned_by (kind_of o.session) x (stored o.session)) running ∙ none_returned (kind_of o.session) (stored o.session) in
    let k : None ≡ Some v = sym none ∙ h in
    absurd (cc)

-- what stands in a map in which an entry was put, by whether it stands where that was put
pub insert_get : {X : Type 0} (m : fin.FinMap nat_cmp X) (k : ℕ) (v : X) (q : ℕ) (here : Bool) → (q == k) ≡ here
    → fin.get (fin.insert m k v) q ≡ cond here (Some v) (fin.get m q)
insert_get m k v q here is = get-insert m k v q ∙ ap (λ (b : Bool). cond b (Some v) (fin.get m q)) is

pub insert_has : {X : Type 0} (m : fin.FinMap nat_cmp X) (k : ℕ) (v : X) (q : ℕ) (x : X) (b : Bool) → (q == k) ≡ b → fin.get m q ≡ Some x
    → (y : X) × (fin.get (fin.insert m k v) q ≡ Some y)
insert_has m k v q x true is at = (v, insert_get m k v q true is)
insert_has m k v q x false is at = (x, insert_get m k v q false is ∙ at)

module _ {X : Type 0} (m : fin.FinMap nat_cmp X) (k : ℕ) (v : X) (P : ℕ → X → Type 0) where
  each_by : (q : ℕ) (x : X) (here : Bool) → (q == k) ≡ here → P k v → ((p : ℕ) (y : X) → fin.get m p ≡ Some y → P p y)
      → cond here (Some v) (fin.get m q) ≡ Some x → P q x
  each_by q x true is new old at = subst (λ (p : ℕ). P p x) (sym (eqb-true q k is)) (subst (P k) (same_Some v x at) new)
  each_by q x false is new old at = old q x at

  -- what is true of each entry, and of one that is put in, is true of each then
  pub each_put : P k v → ((p : ℕ) (y : X) → fin.get m p ≡ Some y → P p y) → (q : ℕ) (x : X) → fin.get (fin.insert m k v) q ≡ Some x → P q x
  each_put new old q x at = each_by q x (q == k) refl new old (sym (get-insert m k v q) ∙ at)

there : {X : Type 0} (m : fin.FinMap nat_cmp X) (k q : ℕ) (o : Option X) (b : Bool) → (q == k) ≡ b → fin.get m k ≡ o → cond b o (fin.get m q) ≡ fin.get m q
there m k q o false is at = refl
there m k q o true is at = sym at ∙ ap (fin.get m) (sym (eqb-true q k is))

-- what is put in where it stands changes nothing
pub insert_same : {X : Type 0} (m : fin.FinMap nat_cmp X) (k : ℕ) (v : X) → fin.get m k ≡ Some v → fin.insert m k v ≡ m
insert_same m k v at = fin.same_map nat_cmp_total fin.nat_cmp-IsAntisymmetric _ m (λ q. get-insert m k v q ∙ there m k q (Some v) (q == k) refl at)

module _ (w : WorldState) (e : WorldEvent) (q : ℕ) (r : Outcome) where
  kept_view : (p : Option Progress) (o : Op) → ((k : Progress) → p ≡ Some k → o.node ≡ q → o.tag ≡ k.tag → o.end ≡ None) → (v : ViewMap)
      → returned o ≡ Some v → returned (advanced q (clock w) p o) ≡ Some v
  kept_view None o running v h = h
  kept_view (Some p) o running v h =
      advance_op q (clock w) p o (λ (y : Op). returned y ≡ Some v) (λ by tagged. absurd (open_returns o v (running p refl by tagged) h)) (λ _. h)

  later : (o : Op) → Among o w.ops → ((k : Progress) → r.progress ≡ Some k → o.node ≡ q → o.tag ≡ k.tag → o.end ≡ None) → IsLater (after w e q r).ops o
  later o in' running =
      let k = same_start q (clock w) r.progress o in
      let moved : Op → Op = advanced q (clock w) r.progress in
      record {
        op = moved o;
        among = among_left (moved o) (map moved w.ops) (op_begun q (clock w) r.begun) (among-image moved o w.ops in');
        by = k.node;
        tagged = k.tag;
        returned = kept_view r.progress o running;
      }

  -- an event that moves only operations that have not ended
  pub after_onward : ((o : Op) → Among o w.ops → (k : Progress) → r.progress ≡ Some k → o.node ≡ q → o.tag ≡ k.tag → o.end ≡ None)
      → IsOnward w.ops (after w e q r).ops
  after_onward running o in' = later o in' (running o in')
