-- What an accepted event was.
use Rattle.std.proofs.Common.{◌≡◌, ℕ, Bool, true, false, cond, List, [], ◌∷◌, ◌++◌, Option, Some, None, refl, sym, ap, ◌∙◌, subst, Result, Ok, Err, slice_get}
use Rattle.std.specs.FinMap as fin
use Rattle.std.specs.FinSet as set
use Rattle.forms.specs.Calls.{Tests, tested}
use Rattle.forms.proofs.Calls.{tested-ok}
pub use Rattle.forms.proofs.Calls.{same_answer, no_refusal}
use Rattle.sc_msg.specs.declared.message.Message.{Message}
use Rattle.reasons.specs.declared.Reason.{Reason}
use Rattle.sc_node.specs.State.{NodeState}
use Rattle.sc_node.specs.Nodes.{stored_view, opening, fitting, leaving, hearing}
use Rattle.sc_world.specs.declared.event.WorldEvent.{WorldEvent}
use Rattle.sc_world.specs.declared.event.WorldEvent.TheVariants as event
use Rattle.sc_world.specs.declared.event.WorldStep.{WorldStep}
use Rattle.sc_world.specs.State.{WorldState}
use Rattle.sc_world.specs.Worlds.{Outcome, of_begun, of_left, of_delivered, by_node, live, live_at, by_live, told, took}
use Rattle.sc_world.specs.Worlds.{acts, after, silent, enters, crashes, stores, collects, leaves, delivers, stepped}
use Rattle.sc_world.proofs.Handlers.{heard, store_outcome, collect_outcome, left_outcome, entered_outcome}

by_node-ok : {A : Type 0} (f : A → Outcome) (r : Result A Reason) (x : Outcome) → by_node f r ≡ Ok x → (a : A) × (r ≡ Ok a) × (f a ≡ x)
by_node-ok f (Ok a) x h = (a, refl, same_answer (f a) x h)
by_node-ok f (Err e) x h = absurd (no_refusal _ x h)

-- a node's call that passed its tests does this
does : {A : Type 0} (f : A → Outcome) (ts : Tests Reason) (a : A) (x : Outcome) → by_node f (tested ts (Ok a)) ≡ Ok x → f a ≡ x
does f ts a x h =
    let k = by_node-ok f (tested ts (Ok a)) x h in
    ap f (same_answer a k.0 (tested-ok ts (Ok a) k.0 k.1).1) ∙ k.2

pub stores-ok : (value : List ℕ) (n : NodeState) (x : Outcome) → stores value n ≡ Ok x → store_outcome n value ≡ x
stores-ok value n x h = does of_begun (opening n ++ fitting (stored_view n value)) _ x h

pub collects-ok : (n : NodeState) (x : Outcome) → collects n ≡ Ok x → collect_outcome n ≡ x
collects-ok n x h = does of_begun (opening n) _ x h

pub leaves-ok : (n : NodeState) (x : Outcome) → leaves n ≡ Ok x → left_outcome n ≡ x
leaves-ok n x h = does of_left (leaving n) _ x h

pub delivers-ok : (m : Message) (n : NodeState) (x : Outcome) → delivers (Some m) n ≡ Ok x → heard n m.from m.body ≡ x
delivers-ok m n x h = does of_delivered (hearing n m) _ x h

pub live-some : (c : Bool) (o : Option NodeState) (n : NodeState) → live c o ≡ Some n → o ≡ Some n
live-some true o n h = absurd (cc)
live-some false None n h = absurd (cc)
live-some false (Some m) n h = go m.gone refl
  where
    go : (b : Bool) → m.gone ≡ b → Some m ≡ Some n
    go true is = let k : None ≡ Some n = ap (λ (x : Bool). let o : Option NodeState = cond x None (Some m) in o) (sym is) ∙ h in absurd (cc)
    go false is = ap (λ (x : Bool). let o : Option NodeState = cond x None (Some m) in o) (sym is) ∙ h

-- an event of a node that was accepted
pub record IsTaken (w : WorldState) (e : WorldEvent) (id : ℕ) (f : NodeState → Result Outcome Reason) (a : WorldStep) (w' : WorldState) : Type 0 where
  pub node : NodeState
  pub at : live_at w id ≡ Some node
  pub outcome : Outcome
  pub gives : f node ≡ Ok outcome
  pub says : told w outcome ≡ a
  pub is : after w e id outcome ≡ w'

took-ok : (w : WorldState) (e : WorldEvent) (id : ℕ) (r : Result Outcome Reason) (a : WorldStep) (w' : WorldState) → took w e id r ≡ Ok (a, w')
    → (x : Outcome) × (r ≡ Ok x) × (told w x ≡ a) × (after w e id x ≡ w')
took-ok w e id (Ok x) a w' h =
    let same = same_answer _ (a, w') h in
    (x, refl, ap (λ (z : WorldStep × WorldState). z.0) same, ap (λ (z : WorldStep × WorldState). z.1) same)
took-ok w e id (Err f) a w' h = absurd (no_refusal f (a, w') h)

pub by_live-ok : (o : Option NodeState) (f : NodeState → Result Outcome Reason) (x : Outcome) → by_live o f ≡ Ok x
    → (n : NodeState) × (o ≡ Some n) × (f n ≡ Ok x)
by_live-ok None f x h = absurd (no_refusal _ x h)
by_live-ok (Some n) f x h = (n, refl, h)

pub acts-ok : (w : WorldState) (e : WorldEvent) (id : ℕ) (f : NodeState → Result Outcome Reason) (a : WorldStep) (w' : WorldState)
    → acts w e id f ≡ Ok (a, w') → IsTaken w e id f a w'
acts-ok w e id f a w' h =
    let k = took-ok w e id (by_live (live_at w id) f) a w' h in
    let n = by_live-ok (live_at w id) f k.0 k.1 in
    record { node = n.0; at = n.1; outcome = k.0; gives = n.2; says = k.2; is = k.3 }

-- what is to be shown of an accepted event, what it told and what it made of the world
abbrev pub OfEvents : Type 1
OfEvents = WorldEvent → WorldStep → WorldState → Type 0

abbrev pub OfOutcome : OfEvents → WorldState → WorldEvent → ℕ → Outcome → Type 0
OfOutcome P w e q r = P e (told w r) (after w e q r)

-- it is shown of each event that a world may accept
pub record Cases (w : WorldState) (P : OfEvents) : Type 0 where
  pub entered : (q : ℕ) → fin.get w.nodes q ≡ None → OfOutcome P w (event.Enter q) q (entered_outcome w.config q)
  pub left : (q : ℕ) (n : NodeState) → fin.get w.nodes q ≡ Some n → OfOutcome P w (event.Leave q) q (left_outcome n)
  pub crashed : (q : ℕ) → P (event.Crash q) (silent w) (record w { crashed = set.insert w.crashed q; events = w.events ++ event.Crash q ∷ [] })
  pub stored : (q : ℕ) (value : List ℕ) (n : NodeState) → fin.get w.nodes q ≡ Some n
      → OfOutcome P w (event.Store q value) q (store_outcome n value)
  pub collected : (q : ℕ) (n : NodeState) → fin.get w.nodes q ≡ Some n → OfOutcome P w (event.Collect q) q (collect_outcome n)
  pub delivered : (number q : ℕ) (n : NodeState) (m : Message) → fin.get w.nodes q ≡ Some n → slice_get w.sent number ≡ Some m
      → OfOutcome P w (event.Deliver number q) q (heard n m.from m.body)

module _ (w : WorldState) (P : OfEvents) (c : Cases w P) where
  at_live : (q : ℕ) (n : NodeState) → live_at w q ≡ Some n → fin.get w.nodes q ≡ Some n
  at_live q n h = live-some (set.contains w.crashed q) (fin.get w.nodes q) n h

  -- after an outcome that is known
  by_taken : (e : WorldEvent) (q : ℕ) (f : NodeState → Result Outcome Reason) (a : WorldStep) (w' : WorldState) (t : IsTaken w e q f a w')
      (x : Outcome) → x ≡ t.outcome → (fin.get w.nodes q ≡ Some t.node → OfOutcome P w e q x) → P e a w'
  by_taken e q f a w' t x same h =
      let says : told w x ≡ a = ap (told w) same ∙ t.says in
      let is : after w e q x ≡ w' = ap (after w e q) same ∙ t.is in
      subst (λ (z : WorldStep × WorldState). P e z.0 z.1) (λ i. (says i, is i)) (h (at_live q t.node t.at))

  delivered_by : (number q : ℕ) (m : Option Message) → slice_get w.sent number ≡ m → (a : WorldStep) (w' : WorldState)
      → IsTaken w (event.Deliver number q) q (delivers m) a w' → P (event.Deliver number q) a w'
  delivered_by number q None sent a w' t = absurd (no_refusal _ t.outcome t.gives)
  delivered_by number q (Some m) sent a w' t =
      by_taken (event.Deliver number q) q (delivers (Some m)) a w' t (heard t.node m.from m.body) (delivers-ok m t.node t.outcome t.gives)
      (λ at. c.delivered number q t.node m at sent)

  crashed_by : (q : ℕ) (o : Option NodeState) (a : WorldStep) (w' : WorldState) → crashes w q o ≡ Ok (a, w') → P (event.Crash q) a w'
  crashed_by q None a w' h = absurd (no_refusal _ (a, w') h)
  crashed_by q (Some n) a w' h = subst (λ (z : WorldStep × WorldState). P (event.Crash q) z.0 z.1) (same_answer _ (a, w') h) (c.crashed q)

  entered_by : (q : ℕ) (o : Option NodeState) (a : WorldStep) (w' : WorldState) → fin.get w.nodes q ≡ o → enters w q o ≡ Ok (a, w')
      → P (event.Enter q) a w'
  entered_by q (Some n) a w' at h = absurd (no_refusal _ (a, w') h)
  entered_by q None a w' at h = subst (λ (z : WorldStep × WorldState). P (event.Enter q) z.0 z.1) (same_answer _ (a, w') h) (c.entered q at)

  -- and so of each that it accepted
  pub by_event : (e : WorldEvent) (a : WorldStep) (w' : WorldState) → stepped w e ≡ Ok (a, w') → P e a w'
  by_event (event.Enter q) a w' h = entered_by q (fin.get w.nodes q) a w' refl h
  by_event (event.Crash q) a w' h = crashed_by q (live_at w q) a w' h
  by_event (event.Leave q) a w' h =
      let t = acts-ok w (event.Leave q) q leaves a w' h in
      by_taken (event.Leave q) q leaves a w' t (left_outcome t.node) (leaves-ok t.node t.outcome t.gives) (c.left q t.node)
  by_event (event.Store q value) a w' h =
      let t = acts-ok w (event.Store q value) q (stores value) a w' h in
      let same : store_outcome t.node value ≡ t.outcome = stores-ok value t.node t.outcome t.gives in
      by_taken (event.Store q value) q (stores value) a w' t (store_outcome t.node value) same (c.stored q value t.node)
  by_event (event.Collect q) a w' h =
      let t = acts-ok w (event.Collect q) q collects a w' h in
      by_taken (event.Collect q) q collects a w' t (collect_outcome t.node) (collects-ok t.node t.outcome t.gives) (c.collected q t.node)
  by_event (event.Deliver number q) a w' h =
      delivered_by number q (slice_get w.sent number) refl a w' (acts-ok w (event.Deliver number q) q (delivers (slice_get w.sent number)) a w' h)
