-- Every list of accepted events keeps the invariant.
use Rattle.std.proofs.Common.{◌≡◌, ℕ, ◌≤◌, Bool, true, false, cond, ◌==◌, zero, suc, List, [], ◌∷◌, ◌++◌, Option}
use Rattle.std.proofs.Common.{Some, None, refl, sym, ap, ◌∙◌, subst, arith, ◌⊎◌, inl, inr, slice_get, Ok}
use Rattle.std.proofs.lemmas.Bool.{eqb-true}
use Rattle.std.specs.Ordering.{nat_cmp}
use Rattle.std.specs.FinMap as fin
use Rattle.std.specs.FinSet as set
use Rattle.std.proofs.lemmas.List.{length_push}
use Rattle.forms.proofs.Lists.{among_either}
use Rattle.sc_view.specs.declared.view.Stored.{Stored}
use Rattle.sc_view.specs.Views.{ViewMap}
use Rattle.sc_members.specs.Ids.{Ids}
use Rattle.sc_members.specs.Members.{Config}
use Rattle.sc_msg.specs.declared.message.Message.{Message}
use Rattle.sc_msg.specs.declared.message.Body.TheVariants.{Enter}
use Rattle.sc_operations.specs.declared.session.OperationKind.TheVariants as kind
use Rattle.sc_node.specs.Sessions.{kind_of}
use Rattle.sc_node.specs.State.{NodeState}
use Rattle.sc_node.specs.Nodes.{message_from, founder, next_stored, store_session, collect_session}
use Rattle.sc_world.specs.declared.act.BegunOp.{BegunOp}
use Rattle.sc_world.specs.declared.event.WorldEvent.{WorldEvent}
use Rattle.sc_world.specs.declared.event.WorldEvent.TheVariants as event
use Rattle.sc_world.specs.declared.event.WorldStep.{WorldStep}
use Rattle.sc_world.specs.declared.op.Op.{Op}
use Rattle.sc_world.specs.State.{WorldState}
use Rattle.sc_world.specs.Worlds.{clock, after, stepped, Reaches, start, nodes_with}
use Rattle.sc_world.specs.Records.{Among}
use Rattle.sc_world.proofs.Changes.{Kept, IsChange, IsSound, view_at, view_of}
use Rattle.sc_world.proofs.Links.{IsLinked, Site, site_of}
use Rattle.sc_world.proofs.Truths.{IsTrue, body_view, IsTruthful, IsThere, IsTold}
use Rattle.sc_world.proofs.Numbers.{IsNumbered}
use Rattle.sc_world.proofs.Finite.{get-insert}
use Rattle.sc_view.proofs.ViewLemmas.{below_refl}
use Rattle.sc_world.proofs.Soundness.{sound_after}
use Rattle.sc_world.proofs.Steps.{node_next}
use Rattle.sc_world.proofs.Handlers.{heard, store_outcome, collect_outcome, left_outcome, entered_outcome, heard_moves, store_moves}
use Rattle.sc_world.proofs.Handlers.{collect_moves, left_moves, store_change, store_linked, collect_change, collect_linked, left_change}
use Rattle.sc_world.proofs.Handlers.{left_linked, delivery_change, delivery_linked, kept_op, enter_change, enter_linked}
use Rattle.sc_world.proofs.Truth.{true_empty, lift, truthful_after}
use Rattle.sc_world.proofs.Telling.{begun_session, persists, delivery_told, store_told, collect_told, left_told}
use Rattle.sc_world.proofs.Numbering.{numbered_next}
use Rattle.sc_world.proofs.Inverts.{by_event}

-- what is true of every world that events lead to
pub record IsInvariant (w : WorldState) : Type 0 where
  pub sound : IsSound w
  pub linked : IsLinked w
  pub truthful : IsTruthful w
  pub numbered : IsNumbered w

-- one step
pub record IsGood (w w' : WorldState) : Type 0 where
  pub change : IsChange w w'
  pub linked : IsLinked w'
  pub told : IsSound w → IsTruthful w → IsTold w w'
  pub numbered : IsNumbered w → IsNumbered w'

-- what stands at a place in a list is among it
pub among_get : {X : Type 0} (xs : List X) (k : ℕ) (x : X) → slice_get xs k ≡ Some x → Among x xs
among_get [] k x h = absurd (cc)
among_get (y ∷ xs) zero x h = let e : y ≡ x = cc in inl (sym e)
among_get (y ∷ xs) (suc k) x h = inr (among_get xs k x h)

module _ (site : Site) where
  open site use {world as w, event as e, id as q, node as n}

  left_good : IsGood w (after w e q (left_outcome n))
  left_good = record {
    change = left_change site;
    linked = left_linked site;
    told = left_told site;
    numbered = λ k. numbered_next site (left_outcome n) (left_moves n) k (omega arith) (λ y f b h. absurd (cc));
  }

  store_good : (value : List ℕ) → IsGood w (after w e q (store_outcome n value))
  store_good value = record {
    change = store_change site value;
    linked = store_linked site value;
    told = λ s t. store_told site s t value;
    numbered = λ k.
        numbered_next site (store_outcome n value) (store_moves n value) k (omega arith)
        (λ y f b h.
        let begun : BegunOp = record { tag = n.operations; session = store_session n value } in
        let same : kind.Store (next_stored n value) ≡ kind.Store f = ap kind_of (begun_session begun y b) ∙ h in
        let entry : next_stored n value ≡ f = cc in
        (omega (arith, ap (λ (z : Stored). z.number) entry), omega (arith, ap (λ (z : Stored). z.number) entry)));
  }

  collect_good : IsGood w (after w e q (collect_outcome n))
  collect_good = record {
    change = collect_change site;
    linked = collect_linked site;
    told = collect_told site;
    numbered = λ k.
        numbered_next site (collect_outcome n) (collect_moves n) k (omega arith)
        (λ y f b h.
        let begun : BegunOp = record { tag = n.operations; session = collect_session n } in
        let same : kind.Collect ≡ kind.Store f = ap kind_of (begun_session begun y b) ∙ h in
        absurd (cc));
  }

  deliver_good : (m : Message) → Among m w.sent → IsGood w (after w e q (heard n m.from m.body))
  deliver_good m sent = record {
    change = delivery_change site m.from m.body sent;
    linked = delivery_linked site m.from m.body sent;
    told = λ s t. delivery_told site s t m.from m.body sent;
    numbered = λ k. numbered_next site (heard n m.from m.body) (heard_moves n m.from m.body) k (omega arith) (λ y f b h. absurd (cc));
  }

module _ (w : WorldState) (e : WorldEvent) (linked : IsLinked w) where
  -- an event that touches neither nodes nor messages
  pub quiet_good : (gone : Ids) → IsGood w (record w { crashed = gone; events = w.events ++ e ∷ [] })
  quiet_good gone =
      let u : WorldState = record w { crashed = gone; events = w.events ++ e ∷ [] } in
      let there : (o : Op) → Among o w.ops → IsThere u o = λ o in'. record { op = o; among = in'; node = refl; kind = refl; begin = refl } in
      record {
        change = record { clock = length_push w.events e; grows = λ id. below_refl _; ops = λ o in'. Kept in'; sent = λ m in'. inl in' };
        linked = record {
          named = linked.named;
          owned = λ o in'. let h = linked.owned o in' in record { node = h.node; at = h.at; tag = h.tag; session = h.session };
          known = linked.known;
        };
        told = λ s t. record {
          next = length_push w.events e;
          persists = there;
          ops = λ o in'. Kept in';
          views = λ p. lift w u (clock w) (clock u) (view_at w p) there (omega (arith, length_push w.events e)) (t.views p);
          sent = λ m in'. inl in';
          begun = λ o in' b. let h : o.begin ≡ clock w = b.begin in absurd (omega (arith, h, s.began o in'));
        };
        numbered = λ k. record { counted = k.counted; positive = k.positive; one = k.one };
      }

  enter_tells : (u : WorldState) (q : ℕ) (m : Message) → Among m (w.sent ++ message_from q Enter ∷ [])
      → Among m w.sent ⊎ ((v : ViewMap) → body_view m.body ≡ Some v → IsTrue u (clock u) v)
  enter_tells u q m in' = elim (among_either m w.sent (message_from q Enter ∷ []) in') [
    | inl h ↦ inl h
    | inr (inl same) ↦ inr (λ v is. let k : None ≡ Some v = sym (ap (λ (y : Message). body_view y.body) same) ∙ is in absurd (cc))
    | inr (inr none) ↦ absurd none
  ]

  pub enter_good : (q : ℕ) → fin.get w.nodes q ≡ None → IsGood w (after w e q (entered_outcome w.config q))
  enter_good q at =
      let u : WorldState = after w e q (entered_outcome w.config q) in
      let there : (o : Op) → Among o w.ops → IsThere u o = persists w e q (entered_outcome w.config q) in
      record {
        change = enter_change w e q linked w.config at;
        linked = enter_linked w e q linked w.config at;
        told = λ s t. record {
          next = length_push w.events e;
          persists = there;
          ops = λ o in'. Kept (kept_op w e q linked o in');
          views = λ p.
              node_next w e q (entered_outcome w.config q) (λ (o : Option NodeState). IsTrue u (clock u) (view_of o)) p (λ _. true_empty u (clock u))
              (λ _. lift w u (clock w) (clock u) (view_at w p) there (omega (arith, length_push w.events e)) (t.views p));
          sent = λ m in'. enter_tells u q m in';
          begun = λ o in' b. let h : o.begin ≡ clock w = b.begin in absurd (omega (arith, h, s.began o (kept_op w e q linked o in')));
        };
        numbered = λ k. record {
          counted = λ o in' f is n has. node_next w e q (entered_outcome w.config q) (λ (z : Option NodeState). z ≡ Some n → f.number ≤ n.stores) o.node
              (λ here g.
              let old = linked.owned o (kept_op w e q linked o in') in
              let none : None ≡ Some old.node = sym at ∙ ap (fin.get w.nodes) (sym here) ∙ old.at in
              absurd (cc))
              (λ there g. k.counted o (kept_op w e q linked o in') f is n g) has;
          positive = λ o in'. k.positive o (kept_op w e q linked o in');
          one = λ o o' in' in2. k.one o o' (kept_op w e q linked o in') (kept_op w e q linked o' in2);
        };
      }

pub step_good : (w : WorldState) → IsLinked w → (e : WorldEvent) (a : WorldStep) (w' : WorldState) → stepped w e ≡ Ok (a, w') → IsGood w w'
step_good w linked = by_event w (λ e a w'. IsGood w w') (record {
  entered = λ q at. enter_good w (event.Enter q) linked q at;
  left = λ q n at. left_good (site_of w (event.Leave q) q n at linked);
  crashed = λ q. quiet_good w (event.Crash q) linked (set.insert w.crashed q);
  stored = λ q value n at. store_good (site_of w (event.Store q value) q n at linked) value;
  collected = λ q n at. collect_good (site_of w (event.Collect q) q n at linked);
  delivered = λ number q n m at sent. deliver_good (site_of w (event.Deliver number q) q n at linked) m (among_get w.sent number m sent);
})

-- one step keeps the invariant
pub step_keeps : (w w' : WorldState) (e : WorldEvent) (a : WorldStep) → IsInvariant w → stepped w e ≡ Ok (a, w') → IsInvariant w'
step_keeps w w' e a i h =
    let g = step_good w i.linked e a w' h in
    record {
      sound = sound_after w w' g.change i.sound;
      linked = g.linked;
      truthful = truthful_after w w' (g.told i.sound i.truthful) i.truthful;
      numbered = g.numbered i.numbered;
    }

pub run_keeps : (es : List WorldEvent) (w w' : WorldState) → IsInvariant w → Reaches w es w' → IsInvariant w'
run_keeps [] w w' i h = subst IsInvariant (sym h) i
run_keeps (e ∷ es) w w' i h = run_keeps es h.1 w' (step_keeps w h.1 e h.0 i h.2) h.3

-- what is true of each founder, and of nobody, is true wherever a world starts
module _ (c : Config) (ids : List ℕ) (P : ℕ → Option NodeState → Type 0) (each : (p : ℕ) → P p (Some (founder c ids p))) where
  founder_or : (q p : ℕ) (o : Option NodeState) (b : Bool) → (q == p) ≡ b → P q o → P q (cond b (Some (founder c ids p)) o)
  founder_or q p o true is h = subst (λ (x : ℕ). P x (Some (founder c ids p))) (sym (eqb-true q p is)) (each p)
  founder_or q p o false is h = h

  all_with : (qs : List ℕ) (nodes : fin.FinMap nat_cmp NodeState) → ((q : ℕ) → P q (fin.get nodes q)) → (q : ℕ)
      → P q (fin.get (nodes_with c ids nodes qs) q)
  all_with [] nodes h q = h q
  all_with (p ∷ qs) nodes h q =
      all_with qs (fin.insert nodes p (founder c ids p))
      (λ i. subst (P i) (sym (get-insert nodes p (founder c ids p) i)) (founder_or i p (fin.get nodes i) (i == p) refl (h i))) q

  pub all_founders : ((q : ℕ) → P q None) → (q : ℕ) → P q (fin.get (start c ids).nodes q)
  all_founders none = all_with ids fin.empty (λ i. subst (P i) (sym (fin.get-empty nat_cmp i)) (none i))

named : (c : Config) (ids : List ℕ) (q : ℕ) (n : NodeState) → fin.get (start c ids).nodes q ≡ Some n → n.id ≡ q
named c ids =
    all_founders c ids (λ q o. (n : NodeState) → o ≡ Some n → n.id ≡ q)
    (λ p n is. let same : founder c ids p ≡ n = cc in sym (ap (λ (y : NodeState). y.id) same)) (λ q n is. absurd (cc))

pub start_invariant : (c : Config) (ids : List ℕ) → IsInvariant (start c ids)
start_invariant c ids = record {
  sound = record {
    numbers = λ o h. absurd h;
    began = λ o h. absurd h;
    acked = λ o v q h. absurd h;
    stores = λ p s h. absurd h;
    acks = λ q a h. absurd h;
    replies = λ q r h. absurd h;
    gathering = λ c q h. absurd h;
    gathered = λ c v q h. absurd h;
  };
  linked = record { named = named c ids; owned = λ o h. absurd h; known = λ m h. absurd h };
  truthful = record {
    views = all_founders c ids (λ q o. IsTrue (start c ids) 0 (view_of o)) (λ p. true_empty (start c ids) 0) (λ q. true_empty (start c ids) 0);
    sent = λ m h. absurd h;
    kept = λ o h. absurd h;
  };
  numbered = record { counted = λ o h. absurd h; positive = λ o h. absurd h; one = λ o p h. absurd h };
}

pub run_invariant : (c : Config) (ids : List ℕ) (es : List WorldEvent) (w : WorldState) → Reaches (start c ids) es w → IsInvariant w
run_invariant c ids es w h = run_keeps es (start c ids) w (start_invariant c ids) h
