-- No number is used twice, so views compare by their entries.
use Rattle.std.proofs.Common.{◌≡◌, ℕ, ◌+◌, ◌≤◌, ◌<◌, Option, Some, None, refl, sym, ap, ◌∙◌, arith, ◌⊎◌, inl, inr}
use Rattle.std.specs.FinMap as fin
use Rattle.sc_view.specs.declared.view.Stored.{Stored}
use Rattle.sc_view.specs.Views.{ViewMap, number_of, number_at, IsBelow, IsCoveredBy}
use Rattle.sc_operations.specs.declared.session.OperationKind.TheVariants as kind
use Rattle.sc_node.specs.Sessions.{kind_of}
use Rattle.sc_world.specs.declared.act.BegunOp.{BegunOp}
use Rattle.sc_node.specs.State.{NodeState}
use Rattle.sc_world.specs.declared.op.Op.{Op}
use Rattle.sc_world.specs.State.{WorldState}
use Rattle.sc_world.specs.Worlds.{clock, Outcome, after}
use Rattle.sc_world.specs.Records.{Among}
use Rattle.sc_world.proofs.Links.{Site, IsTransition}
use Rattle.sc_world.proofs.Truths.{WasBegun, IsTrue}
use Rattle.sc_world.proofs.Numbers.{IsNumbered}
use Rattle.sc_world.proofs.Steps.{each_after, node_next}
use Rattle.sc_world.proofs.Telling.{same_start}

-- true views compare by their entries
pub covered : (w : WorldState) → IsNumbered w → (s t : ℕ) (u v : ViewMap) → IsTrue w s u → IsTrue w t v → IsBelow u v → IsCoveredBy u v
covered w k s t u v gu gv le id e is = go (fin.get v id) refl
  where
    a : WasBegun w s id e
    a = gu.begun id e is

    up : e.number ≤ number_at v id
    up = omega (arith, le.at id, ap number_of is)

    less_or : (x y : ℕ) → x ≤ y → (x ≡ y) ⊎ (x < y)
    less_or x y h = grind arith

    go : (o : Option Stored) → fin.get v id ≡ o → (fin.get v id ≡ Some e) ⊎ (e.number < number_at v id)
    go None at = absurd (omega (arith, up, ap number_of at, k.positive a.op a.among e a.kind))
    go (Some f) at =
        let b = gv.begun id f at in
        elim (less_or e.number f.number (omega (arith, up, ap number_of at))) [
          | inl same ↦
              let one : e ≡ f = k.one a.op b.op a.among b.among e f a.kind b.kind (a.node ∙ sym b.node) same in
              inl (at ∙ ap (λ (x : Stored). let y : Option Stored = Some x in y) (sym one))
          | inr lt ↦ inr (omega (arith, lt, ap number_of at))
        ]

-- where the number of an operation comes from
data Start (w : WorldState) (q : ℕ) (r : Outcome) (o : Op) : Type 0 where
  Old : (p : Op) → Among p w.ops → o.node ≡ p.node → kind_of o.session ≡ kind_of p.session → Start w q r o
  New : (y : BegunOp) → r.begun ≡ Some y → o.node ≡ q → kind_of o.session ≡ kind_of y.session → Start w q r o

-- the number of the store that begins, if one does
abbrev pub IsNextNumber : NodeState → Outcome → Type 0
IsNextNumber n r = (y : BegunOp) (s : Stored) → r.begun ≡ Some y → kind_of y.session ≡ kind.Store s
    → (s.number ≡ n.stores + 1) × (s.number ≤ r.node.stores)

module _ (site : Site) (r : Outcome) (x : IsTransition site.node r) (k : IsNumbered site.world) (more : site.node.stores ≤ r.node.stores)
    (next_number : IsNextNumber site.node r) where
  open site use {world as w, event as e, id as q, node as n, at}

  abbrev next : WorldState
  next = after w e q r

  start_of : (o : Op) → Among o next.ops → Start w q r o
  start_of =
      each_after w e q r (Start w q r) (λ o in'. let f = same_start q (clock w) r.progress o in Old o in' f.node f.kind)
      (λ y is. New y is refl refl)

  -- the stores of the node before have no larger numbers
  old_counted : (p : Op) → Among p w.ops → (f : Stored) → kind_of p.session ≡ kind.Store f → p.node ≡ q → f.number ≤ n.stores
  old_counted p in' f is here = k.counted p in' f is n (ap (fin.get w.nodes) here ∙ at)

  counted' : (o : Op) → Start w q r o → (e : Stored) → kind_of o.session ≡ kind.Store e → (m : NodeState) → fin.get next.nodes o.node ≡ Some m
      → e.number ≤ m.stores
  counted' o (Old p in' nq kq) f is m has =
      node_next w e q r (λ (z : Option NodeState). z ≡ Some m → f.number ≤ m.stores) o.node
      (λ here h. let same : r.node ≡ m = cc in omega (arith, old_counted p in' f (sym kq ∙ is) (sym nq ∙ here), more, ap (λ (z : NodeState). z.stores) same))
      (λ there h. k.counted p in' f (sym kq ∙ is) m (ap (fin.get w.nodes) (sym nq) ∙ h))
      has
  counted' o (New y b nq kq) f is m has =
      node_next w e q r (λ (z : Option NodeState). z ≡ Some m → f.number ≤ m.stores) o.node
      (λ here h. let same : r.node ≡ m = cc in let c = next_number y f b (sym kq ∙ is) in omega (arith, c.1, ap (λ (z : NodeState). z.stores) same))
      (λ there h. absurd (there nq))
      has

  positive' : (o : Op) → Start w q r o → (e : Stored) → kind_of o.session ≡ kind.Store e → 1 ≤ e.number
  positive' o (Old p in' nq kq) e is = k.positive p in' e (sym kq ∙ is)
  positive' o (New y b nq kq) e is = let c = next_number y e b (sym kq ∙ is) in omega (arith, c.0)

  one' : (o o' : Op) → Start w q r o → Start w q r o' → (e e' : Stored) → kind_of o.session ≡ kind.Store e → kind_of o'.session ≡ kind.Store e'
      → o.node ≡ o'.node → e.number ≡ e'.number → e ≡ e'
  one' o o' (Old p in' nq kq) (Old p' in2 nq' kq') e e' is is' same number =
      k.one p p' in' in2 e e' (sym kq ∙ is) (sym kq' ∙ is') (sym nq ∙ same ∙ nq') number
  one' o o' (Old p in' nq kq) (New y b nq' kq') e e' is is' same number =
      let c = next_number y e' b (sym kq' ∙ is') in absurd (omega (arith, c.0, number, old_counted p in' e (sym kq ∙ is) (sym nq ∙ same ∙ nq')))
  one' o o' (New y b nq kq) (Old p in' nq' kq') e e' is is' same number =
      let c = next_number y e b (sym kq ∙ is) in absurd (omega (arith, c.0, number, old_counted p in' e' (sym kq' ∙ is') (sym nq' ∙ sym same ∙ nq)))
  one' o o' (New y b nq kq) (New y' b' nq' kq') e e' is is' same number =
      let one : y ≡ y' = (let h : Some y ≡ Some y' = sym b ∙ b' in cc) in
      let h : kind.Store e ≡ kind.Store e' = sym (sym kq ∙ is) ∙ ap (λ (z : BegunOp). kind_of z.session) one ∙ sym kq' ∙ is' in cc

  pub numbered_next : IsNumbered next
  numbered_next = record {
    counted = λ o in'. counted' o (start_of o in');
    positive = λ o in'. positive' o (start_of o in');
    one = λ o o' in' in2. one' o o' (start_of o in') (start_of o' in2);
  }
