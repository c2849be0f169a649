-- A node has begun as many operations and stores as its events say, and each of its open operations has a record.
use Rattle.std.proofs.Common.{◌≡◌, ℕ, ◌+◌, Bool, true, false, cond, ◌==◌, List, [], ◌∷◌, ◌++◌, Option}
use Rattle.std.proofs.Common.{Some, None, add-zero, refl, sym, ap, ◌∙◌, subst, arith, Ok}
use Rattle.std.proofs.lemmas.Bool.{eqb-true, eq-eqb, false_from_ne_true}
use Rattle.std.proofs.lemmas.List.Sums.{sum_by_push}
use Rattle.std.specs.List.{count_by}
use Rattle.std.specs.Ordering.{nat_cmp}
use Rattle.std.specs.FinMap as fin
use Rattle.std.specs.FinSet as set
use Rattle.sc_members.specs.Members.{Config}
use Rattle.sc_msg.specs.declared.message.Message.{Message}
use Rattle.sc_operations.specs.declared.session.Session.{Session}
use Rattle.sc_operations.specs.declared.progress.Progress.{Progress}
use Rattle.sc_node.specs.State.{NodeState}
use Rattle.sc_node.specs.Nodes.{progress_of, founder, store_session, collect_session}
use Rattle.sc_world.specs.declared.event.WorldEvent.{WorldEvent}
use Rattle.sc_world.specs.declared.event.WorldEvent.TheVariants as event
use Rattle.sc_world.specs.declared.event.WorldStep.{WorldStep}
use Rattle.sc_world.specs.declared.op.Op.{Op}
use Rattle.sc_world.specs.State.{WorldState}
use Rattle.sc_world.specs.Worlds.{clock, Outcome, node_of, advanced, after, stores, stepped, start}
use Rattle.sc_world.specs.Records.{Among, begins, begins_store, operations_of, stores_of}
use Rattle.sc_world.proofs.Links.{session_moved, session_after, new_op}
use Rattle.sc_world.proofs.Finite.{get-insert}
use Rattle.sc_world.proofs.Steps.{kept_among, begun_among, node_next}
use Rattle.sc_world.proofs.Handlers.{heard, store_outcome, collect_outcome, left_outcome, entered_outcome, get-sessions_after}
use Rattle.sc_world.proofs.Telling.{same_start}
use Rattle.sc_world.proofs.Inverts.{by_event}
use Rattle.sc_world.proofs.Runs.{all_founders}

-- how many operations the node has begun, where there is one
abbrev pub begun_at : Option NodeState → ℕ
begun_at None = 0
begun_at (Some n) = n.operations

-- how many stores
abbrev pub stored_at : Option NodeState → ℕ
stored_at None = 0
stored_at (Some n) = n.stores

-- the record of the node's operation with this tag
pub record HasRecord (w : WorldState) (q tag : ℕ) : Type 0 where
  pub op : Op
  pub among : Among op w.ops
  pub by : op.node ≡ q
  pub tagged : op.tag ≡ tag

-- each operation that the node has open has its record
abbrev pub AreKept : WorldState → ℕ → NodeState → Type 0
AreKept w q n = (tag : ℕ) (s : Session) → fin.get n.sessions tag ≡ Some s → HasRecord w q tag

pub record IsTallied (w : WorldState) : Type 0 where
  pub operations : (q : ℕ) → begun_at (fin.get w.nodes q) ≡ operations_of q w.events
  pub stores : (q : ℕ) → stored_at (fin.get w.nodes q) ≡ stores_of q w.events
  pub kept : (q : ℕ) (n : NodeState) → fin.get w.nodes q ≡ Some n → AreKept w q n

-- ---- events, counted

count_more : (p : WorldEvent → Bool) (es : List WorldEvent) (e : WorldEvent) → count_by p (es ++ e ∷ []) ≡ count_by p es + cond (p e) 1 0
count_more p es e = sum_by_push (λ x. cond (p x) 1 0) es e

begins_own : (id : ℕ) (e : WorldEvent) → begins id e ≡ true → node_of e ≡ id
begins_own id (event.Store q value) h = eqb-true q id h
begins_own id (event.Collect q) h = eqb-true q id h
begins_own id e h = absurd (cc)

begins_store_own : (id : ℕ) (e : WorldEvent) → begins_store id e ≡ true → node_of e ≡ id
begins_store_own id (event.Store q value) h = eqb-true q id h
begins_store_own id e h = absurd (cc)

one_more : (b : Bool) (count : ℕ) → b ≡ true → count + cond b 1 0 ≡ count + 1
one_more b count is = ap (λ (x : Bool). count + cond x 1 0) is

no_more : (b : Bool) (count : ℕ) → b ≡ false → count + cond b 1 0 ≡ count
no_more b count is = ap (λ (x : Bool). count + cond x 1 0) is ∙ add-zero count

-- ---- one event of a node

module _ (w : WorldState) (e : WorldEvent) (q : ℕ) (r : Outcome) (own : node_of e ≡ q) where
  abbrev next : WorldState
  next = after w e q r

  -- what a node has counted, and the events that it counts
  module _ (held : Option NodeState → ℕ) (mark : ℕ → WorldEvent → Bool) (marked : (id : ℕ) → mark id e ≡ true → node_of e ≡ id)
      (was : (id : ℕ) → held (fin.get w.nodes id) ≡ count_by (mark id) w.events)
      (grows : held (Some r.node) ≡ held (fin.get w.nodes q) + cond (mark q e) 1 0) where
    count_next : (id : ℕ) → held (fin.get next.nodes id) ≡ count_by (mark id) next.events
    count_next id =
        node_next w e q r (λ (o : Option NodeState). held o ≡ count_by (mark id) next.events) id
        (λ here.
        subst (λ (x : ℕ). held (Some r.node) ≡ count_by (mark x) next.events) (sym here)
        (grows ∙ ap (λ (x : ℕ). x + cond (mark q e) 1 0) (was q) ∙ sym (count_more (mark q) w.events e)))
        (λ there.
        let other : mark id e ≡ false = false_from_ne_true (mark id e) (λ h. there (sym (marked id h) ∙ own)) in
        was id ∙ sym (no_more (mark id e) (count_by (mark id) w.events) other) ∙ sym (count_more (mark id) w.events e))

  -- a record stays, perhaps in a later state
  record_on : (id tag : ℕ) → HasRecord w id tag → HasRecord next id tag
  record_on id tag k =
      let s = same_start q (clock w) r.progress k.op in
      record {
        op = advanced q (clock w) r.progress k.op;
        among = kept_among w e q r k.op k.among;
        by = s.node ∙ k.by;
        tagged = s.tag ∙ k.tagged;
      }

  module _ (t : IsTallied w) (here : AreKept next q r.node) where
    kept_next : (id : ℕ) (n : NodeState) → fin.get next.nodes id ≡ Some n → AreKept next id n
    kept_next id n =
        node_next w e q r (λ (o : Option NodeState). o ≡ Some n → AreKept next id n) id
        (λ at is tag s h.
        let same : r.node ≡ n = cc in
        subst (λ (x : ℕ). HasRecord next x tag) (sym at) (here tag s (ap (λ (y : NodeState). fin.get y.sessions tag) same ∙ h)))
        (λ _ is tag s h. record_on id tag (t.kept id n is tag s h))

    pub tallied_next : (begun_at (Some r.node) ≡ begun_at (fin.get w.nodes q) + cond (begins q e) 1 0)
        → (stored_at (Some r.node) ≡ stored_at (fin.get w.nodes q) + cond (begins_store q e) 1 0) → IsTallied next
    tallied_next operations stores = record {
      operations = count_next begun_at begins (λ id. begins_own id e) t.operations operations;
      stores = count_next stored_at begins_store (λ id. begins_store_own id e) t.stores stores;
      kept = kept_next;
    }

  -- the node has an operation open that begins now
  begun_kept : (n : NodeState) (made : Session) → AreKept next q n → r.begun ≡ Some (record { tag = n.operations; session = made })
      → r.node.sessions ≡ fin.insert n.sessions n.operations made → AreKept next q r.node
  begun_kept n made before begun opens tag s h =
      go (tag == n.operations) refl (sym (get-insert n.sessions n.operations made tag) ∙ ap (λ (m : fin.FinMap nat_cmp Session). fin.get m tag) (sym opens) ∙ h)
    where
      go : (b : Bool) → (tag == n.operations) ≡ b → cond b (Some made) (fin.get n.sessions tag) ≡ Some s → HasRecord next q tag
      go true is at =
          record {
            op = new_op q (clock w) (record { tag = n.operations; session = made });
            among = begun_among w e q r (record { tag = n.operations; session = made }) begun;
            by = refl;
            tagged = sym (eqb-true tag n.operations is);
          }
      go false is at = before tag s at

-- a session that is there after a message was there before it
no_session : (b : Bool) (p : Progress) (s : Session) → cond b (session_moved p None) None ≡ Some s → ⊥
no_session true p s h = absurd (cc)
no_session false p s h = absurd (cc)

session_was : (p : Option Progress) (t : ℕ) (x : Option Session) (s : Session) → session_after p t x ≡ Some s → (y : Session) × (x ≡ Some y)
session_was None t x s h = (s, h)
session_was (Some p) t None s h = absurd (no_session (t == p.tag) p s h)
session_was (Some p) t (Some y) s h = (y, refl)

module _ (w : WorldState) (t : IsTallied w) where
  module _ (q : ℕ) (n : NodeState) (at : fin.get w.nodes q ≡ Some n) where
    operations : begun_at (fin.get w.nodes q) ≡ n.operations
    operations = ap begun_at at

    stores_are : stored_at (fin.get w.nodes q) ≡ n.stores
    stores_are = ap stored_at at

    operations_more : begun_at (fin.get w.nodes q) + cond (q == q) 1 0 ≡ n.operations + 1
    operations_more = one_more (q == q) (begun_at (fin.get w.nodes q)) (eq-eqb q q refl) ∙ ap (λ (count : ℕ). count + 1) operations

    stores_more : stored_at (fin.get w.nodes q) + cond (q == q) 1 0 ≡ n.stores + 1
    stores_more = one_more (q == q) (stored_at (fin.get w.nodes q)) (eq-eqb q q refl) ∙ ap (λ (count : ℕ). count + 1) stores_are

    -- the operations that were open have their records in the next world too
    before : (e : WorldEvent) (r : Outcome) → node_of e ≡ q → AreKept (after w e q r) q n
    before e r own tag s h = record_on w e q r own q tag (t.kept q n at tag s h)

    left_tallied : IsTallied (after w (event.Leave q) q (left_outcome n))
    left_tallied =
        tallied_next w (event.Leave q) q (left_outcome n) refl t (before (event.Leave q) (left_outcome n) refl)
        (omega (arith, operations)) (omega (arith, stores_are))

    store_tallied : (value : List ℕ) → IsTallied (after w (event.Store q value) q (store_outcome n value))
    store_tallied value =
        let e : WorldEvent = event.Store q value in
        let r : Outcome = store_outcome n value in
        tallied_next w e q r refl t (begun_kept w e q r refl n (store_session n value) (before e r refl) refl refl)
        (sym operations_more) (sym stores_more)

    collect_tallied : IsTallied (after w (event.Collect q) q (collect_outcome n))
    collect_tallied =
        let e : WorldEvent = event.Collect q in
        let r : Outcome = collect_outcome n in
        tallied_next w e q r refl t (begun_kept w e q r refl n (collect_session n) (before e r refl) refl refl)
        (sym operations_more) (omega (arith, stores_are))

    heard_tallied : (number : ℕ) (m : Message) → IsTallied (after w (event.Deliver number q) q (heard n m.from m.body))
    heard_tallied number m =
        let e : WorldEvent = event.Deliver number q in
        let r : Outcome = heard n m.from m.body in
        tallied_next w e q r refl t
        (λ tag s h.
        let p : Option Progress = progress_of n m.from m.body in
        let y = session_was p tag (fin.get n.sessions tag) s (sym (get-sessions_after n.sessions p tag) ∙ h) in
        before e r refl tag y.0 y.1)
        (omega (arith, operations)) (omega (arith, stores_are))

  entered_tallied : (q : ℕ) → fin.get w.nodes q ≡ None → IsTallied (after w (event.Enter q) q (entered_outcome w.config q))
  entered_tallied q at =
      let none : begun_at (fin.get w.nodes q) ≡ 0 = ap begun_at at in
      let no_store : stored_at (fin.get w.nodes q) ≡ 0 = ap stored_at at in
      tallied_next w (event.Enter q) q (entered_outcome w.config q) refl t
      (λ tag s h. let k : None ≡ Some s = sym (fin.get-empty nat_cmp tag) ∙ h in absurd (cc))
      (omega (arith, none)) (omega (arith, no_store))

  crashed_tallied : (q : ℕ) → IsTallied (record w { crashed = set.insert w.crashed q; events = w.events ++ event.Crash q ∷ [] })
  crashed_tallied q = record {
    operations = λ id.
        let h : operations_of id (w.events ++ event.Crash q ∷ []) ≡ operations_of id w.events + 0 = count_more (begins id) w.events (event.Crash q) in
        omega (arith, h, t.operations id);
    stores = λ id.
        let h : stores_of id (w.events ++ event.Crash q ∷ []) ≡ stores_of id w.events + 0 = count_more (begins_store id) w.events (event.Crash q) in
        omega (arith, h, t.stores id);
    kept = λ id n at tag s h. let k = t.kept id n at tag s h in record { op = k.op; among = k.among; by = k.by; tagged = k.tagged };
  }

  pub step_tallied : (e : WorldEvent) (a : WorldStep) (w' : WorldState) → stepped w e ≡ Ok (a, w') → IsTallied w'
  step_tallied = by_event w (λ e a w'. IsTallied w') (record {
    entered = entered_tallied;
    left = left_tallied;
    crashed = crashed_tallied;
    stored = λ q value n at. store_tallied q n at value;
    collected = collect_tallied;
    delivered = λ number q n m at sent. heard_tallied q n at number m;
  })

-- ---- founders

-- a node that has begun nothing, or none
record IsIdle (o : Option NodeState) : Type 0 where
  operations : begun_at o ≡ 0
  stores : stored_at o ≡ 0
  closed : (n : NodeState) → o ≡ Some n → (tag : ℕ) (s : Session) → fin.get n.sessions tag ≡ Some s → ⊥

nobody_idle : IsIdle None
nobody_idle = record { operations = refl; stores = refl; closed = λ n is tag s h. absurd (cc) }

module _ (c : Config) (ids : List ℕ) where
  founder_idle : (p : ℕ) → IsIdle (Some (founder c ids p))
  founder_idle p = record {
    operations = refl;
    stores = refl;
    closed = λ n is tag s h.
        let same : founder c ids p ≡ n = cc in
        let k : None ≡ Some s = sym (fin.get-empty nat_cmp tag) ∙ ap (λ (y : NodeState). fin.get y.sessions tag) same ∙ h in
        absurd (cc);
  }

  start_idle : (q : ℕ) → IsIdle (fin.get (start c ids).nodes q)
  start_idle = all_founders c ids (λ q o. IsIdle o) founder_idle (λ q. nobody_idle)

  pub start_tallied : IsTallied (start c ids)
  start_tallied = record {
    operations = λ q. (start_idle q).operations;
    stores = λ q. (start_idle q).stores;
    kept = λ q n at tag s h. absurd ((start_idle q).closed n at tag s h);
  }
