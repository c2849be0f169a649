-- Views stay true.
use Rattle.std.proofs.Common.{◌≡◌, ℕ, ◌≤◌, Bool, true, false, cond, Option, Some, None, sym, ◌∙◌, subst, arith, inl, inr}
use Rattle.std.specs.Ordering.{nat_cmp}
use Rattle.std.specs.FinMap as fin
use Rattle.sc_view.specs.declared.view.Stored.{Stored}
use Rattle.sc_view.specs.Views.{ViewMap, merge, put}
use Rattle.sc_node.specs.Sessions.{stored}
use Rattle.sc_world.specs.declared.op.Op.{Op}
use Rattle.sc_world.specs.State.{WorldState}
use Rattle.sc_world.specs.Worlds.{clock}
use Rattle.sc_world.specs.Records.{Among}
use Rattle.sc_world.proofs.Changes.{view_at, OpFrom, Kept, Begun, Acknowledged, Replied}
use Rattle.sc_world.proofs.Truths.{WasBegun, IsTrue, limit, limit_by, IsTruthful, IsThere, IsTold}
use Rattle.sc_view.proofs.ViewLemmas.{merge_each, put_each}

pub true_empty : (w : WorldState) (t : ℕ) → IsTrue w t fin.empty
true_empty w t = record { begun = λ id e is. let k : None ≡ Some e = sym (fin.get-empty nat_cmp id) ∙ is in absurd (cc) }

pub true_merge : (w : WorldState) (t : ℕ) (a b : ViewMap) → IsTrue w t a → IsTrue w t b → IsTrue w t (merge a b)
true_merge w t a b ga gb = record { begun = merge_each (WasBegun w t) a b ga.begun gb.begun }

pub true_put : (w : WorldState) (t : ℕ) (v : ViewMap) (k : ℕ) (x : Stored) → IsTrue w t v → WasBegun w t k x → IsTrue w t (put v k x)
true_put w t v k x g s = record { begun = put_each (WasBegun w t) v k x s g.begun }

pub true_if : (w : WorldState) (t : ℕ) (b : Bool) (u v : ViewMap) → IsTrue w t u → IsTrue w t v → IsTrue w t (cond b u v)
true_if w t true u v gu gv = gu
true_if w t false u v gu gv = gv

pub lift : (w w' : WorldState) (t t' : ℕ) (v : ViewMap) → ((o : Op) → Among o w.ops → IsThere w' o) → t ≤ t' → IsTrue w t v → IsTrue w' t' v
lift w w' t t' v there le g = record {
  begun = λ id e is.
      let s = g.begun id e is in
      let h = there s.op s.among in
      record { op = h.op; among = h.among; node = h.node ∙ s.node; kind = h.kind ∙ s.kind; begin = omega (arith, h.begin, s.begin, le) };
}

limit_up : (c c' : ℕ) (e : Option ℕ) → c ≤ c' → limit_by c e ≤ limit_by c' e
limit_up c c' None le = le
limit_up c c' (Some e) le = omega arith

module _ (w w' : WorldState) (x : IsTold w w') (s : IsTruthful w) where
  later : clock w ≤ clock w'
  later = omega (arith, x.next)

  kept' : (o : Op) → Among o w'.ops → OpFrom w w' o → (v : ViewMap) → stored o.session ≡ Some v → IsTrue w' (limit w' o) v
  kept' o in' (Kept h) v is = lift w w' (limit w o) (limit w' o) v x.persists (limit_up (clock w) (clock w') o.end later) (s.kept o h v is)
  kept' o in' (Begun b) v is = subst (λ (e : Option ℕ). IsTrue w' (limit_by (clock w') e) v) (sym b.end) (x.begun o in' b v is)
  kept' o in' (Acknowledged o0 u f a m r) v is =
      let was : stored o0.session ≡ Some v = cc in
      let g : IsTrue w (clock w) v = subst (λ (e : Option ℕ). IsTrue w (limit_by (clock w) e) v) r.same.running (s.kept o0 a v was) in
      elim r.ends [
        | inl none ↦ subst (λ (e : Option ℕ). IsTrue w' (limit_by (clock w') e) v) (sym none) (lift w w' (clock w) (clock w') v x.persists later g)
        | inr at ↦ subst (λ (e : Option ℕ). IsTrue w' (limit_by (clock w') e) v) (sym at) (lift w w' (clock w) (clock w) v x.persists (omega arith) g)
      ]
  kept' o in' (Replied o0 u f a m r) v is =
      elim r.is [
        | inl none ↦ absurd (cc)
        | inr now ↦
            let same : view_at w' o.node ≡ v = cc in
            subst (λ (e : Option ℕ). IsTrue w' (limit_by (clock w') e) v) (sym r.stays) (subst (IsTrue w' (clock w')) same (x.views o.node))
      ]

  pub truthful_after : IsTruthful w'
  truthful_after = record {
    views = x.views;
    sent = λ m in' v is. elim (x.sent m in') [
      | inl h ↦ lift w w' (clock w) (clock w') v x.persists later (s.sent m h v is)
      | inr h ↦ h v is
    ];
    kept = λ o in'. kept' o in' (x.ops o in');
  }
