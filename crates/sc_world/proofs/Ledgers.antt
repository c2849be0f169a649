-- Every event keeps the records true, and one for each operation.
use Rattle.std.proofs.Common.{◌≡◌, ℕ, zero, suc, ◌+◌, true, false, List, [], ◌∷◌, ◌++◌, length, map, take, Option}
use Rattle.std.proofs.Common.{Some, None, refl, sym, ap, ◌∙◌, subst, arith, ◌⊎◌, inl, inr, slice_get, Ok}
use Rattle.std.proofs.lemmas.Bool.{eq-eqb}
use Rattle.std.proofs.lemmas.Option.{same_Some}
use Rattle.std.proofs.Math.Seq.{take-append_seam}
use Rattle.std.specs.FinMap as fin
use Rattle.sc_msg.specs.declared.message.Message.{Message}
use Rattle.sc_view.specs.declared.view.Stored.{Stored}
use Rattle.sc_operations.specs.declared.progress.Progress.{Progress}
use Rattle.sc_operations.specs.declared.session.OperationKind.{OperationKind}
use Rattle.sc_operations.specs.declared.session.OperationKind.TheVariants as kind
use Rattle.sc_world.specs.declared.act.BegunOp.{BegunOp}
use Rattle.sc_node.specs.State.{NodeState}
use Rattle.sc_node.specs.Nodes.{progress_of, next_stored, store_session, collect_session}
use Rattle.sc_world.specs.declared.event.WorldEvent.{WorldEvent}
use Rattle.sc_world.specs.declared.event.WorldEvent.TheVariants as event
use Rattle.sc_world.specs.declared.event.WorldStep.{WorldStep}
use Rattle.sc_world.specs.declared.op.Op.{Op}
use Rattle.sc_world.specs.State.{WorldState}
use Rattle.sc_world.specs.Worlds.{clock, Outcome, advanced, op_begun, after, stepped, IsHistory}
use Rattle.sc_world.specs.Records.{Among, beginning_of, begins, operations_of, stores_of, IsAck, IsReply, IsRecord, AreDistinct, HasBegun, AreRecords}
use Rattle.sc_world.proofs.Changes.{IsSound}
use Rattle.sc_world.proofs.Links.{IsLinked, site_of, new_op, IsMove}
use Rattle.sc_world.proofs.Steps.{each_after, begun_among, advance_op, the_node}
use Rattle.sc_world.proofs.Handlers.{heard, store_outcome, collect_outcome, left_outcome, entered_outcome, heard_moves, moves}
use Rattle.sc_world.proofs.Telling.{same_start, persists}
use Rattle.sc_world.proofs.Truths.{IsThere}
use Rattle.sc_world.proofs.Tallies.{begun_at, stored_at, IsTallied}
use Rattle.sc_world.proofs.Inverts.{OfOutcome, by_event}
use Rattle.sc_world.proofs.Runs.{among_get}
use Rattle.sc_world.proofs.Histories.{IsNext, step_next, was_now}
use Rattle.sc_world.proofs.Recording.{record_kept, new_measured, new_open, event_new}
use Rattle.sc_world.proofs.Answering.{moved_record}

pub get_append : {X : Type 0} (xs ys : List X) (i : ℕ) (a : X) → slice_get (xs ++ ys) i ≡ Some a
    → (slice_get xs i ≡ Some a) ⊎ ((j : ℕ) × (i ≡ length xs + j) × (slice_get ys j ≡ Some a))
get_append [] ys i a h = inr (i, omega arith, h)
get_append (x ∷ xs) ys zero a h = inl h
get_append (x ∷ xs) ys (suc i) a h = elim (get_append xs ys i a h) [ inl k ↦ inl k | inr k ↦ inr (k.0, omega (arith, k.1), k.2) ]

get_map : {X Y : Type 0} (f : X → Y) (xs : List X) (i : ℕ) (a : Y) → slice_get (map f xs) i ≡ Some a → (x : X) × (slice_get xs i ≡ Some x) × (a ≡ f x)
get_map f [] i a h = absurd (cc)
get_map f (x ∷ xs) zero a h = (x, refl, (let e : f x ≡ a = cc in sym e))
get_map f (x ∷ xs) (suc i) a h = get_map f xs i a h

-- a list of records, some of them moved, and at most one new
module _ (q place : ℕ) (p : Option Progress) (ops : List Op) (b : Option BegunOp) (distinct : AreDistinct ops)
    (fresh : (y : BegunOp) → b ≡ Some y → (o : Op) → Among o ops → o.node ≡ q → o.tag ≡ y.tag → ⊥) where
  -- where a record comes from
  data From (i : ℕ) (a : Op) : Type 0 where
    Old : (o : Op) → slice_get ops i ≡ Some o → a.node ≡ o.node → a.tag ≡ o.tag → From i a
    New : (y : BegunOp) → b ≡ Some y → i ≡ length (map (advanced q place p) ops) → a.node ≡ q → a.tag ≡ y.tag → From i a

  begun_from : (i j : ℕ) (a : Op) (y : Option BegunOp) → b ≡ y → i ≡ length (map (advanced q place p) ops) + j
      → slice_get (op_begun q place y) j ≡ Some a → From i a
  begun_from i j a None is at h = absurd (cc)
  begun_from i zero a (Some y) is at h =
      let e : new_op q place y ≡ a = cc in
      New y is (omega (arith, at)) (ap (λ (o : Op). o.node) (sym e)) (ap (λ (o : Op). o.tag) (sym e))
  begun_from i (suc j) a (Some y) is at h = absurd (cc)

  from : (i : ℕ) (a : Op) → slice_get (map (advanced q place p) ops ++ op_begun q place b) i ≡ Some a → From i a
  from i a h =
      elim (get_append (map (advanced q place p) ops) (op_begun q place b) i a h) [
        | inl old ↦
            let k = get_map (advanced q place p) ops i a old in
            let s = same_start q place p k.0 in
            Old k.0 k.1 (ap (λ (o : Op). o.node) k.2 ∙ s.node) (ap (λ (o : Op). o.tag) k.2 ∙ s.tag)
        | inr new ↦ begun_from i new.0 a b refl new.1 new.2
      ]

  one_place : (i k : ℕ) (a c : Op) → From i a → From k c → a.node ≡ c.node → a.tag ≡ c.tag → i ≡ k
  one_place i k a c (Old x at nx tx) (Old y at' ny ty) node tag = distinct i k x y at at' (sym nx ∙ node ∙ ny) (sym tx ∙ tag ∙ ty)
  one_place i k a c (Old x at nx tx) (New y is here ny ty) node tag =
      absurd (fresh y is x (among_get ops i x at) (sym nx ∙ node ∙ ny) (sym tx ∙ tag ∙ ty))
  one_place i k a c (New y is here ny ty) (Old x at nx tx) node tag =
      absurd (fresh y is x (among_get ops k x at) (sym nx ∙ sym node ∙ ny) (sym tx ∙ sym tag ∙ ty))
  one_place i k a c (New y is here ny ty) (New z is' there nz tz) node tag = here ∙ sym there

  pub distinct_next : AreDistinct (map (advanced q place p) ops ++ op_begun q place b)
  distinct_next i k a c ha hc node tag = one_place i k a c (from i a ha) (from k c hc) node tag

-- the node of an operation begins it
begins_it : (node : ℕ) (d : OperationKind) → begins node (beginning_of node d) ≡ true
begins_it node (kind.Store e) = eq-eqb node node refl
begins_it node kind.Collect = eq-eqb node node refl

none_begins : (e : WorldEvent) → ((node : ℕ) → begins node e ≡ false) → (node : ℕ) (d : OperationKind) → e ≡ beginning_of node d → ⊥
none_begins e quiet node d is = let no : false ≡ true = sym (quiet node) ∙ ap (begins node) is ∙ begins_it node d in absurd (cc)

module _ (w : WorldState) (history : IsHistory w) (linked : IsLinked w) (sound : IsSound w) (tallied : IsTallied w) (records : AreRecords w) where
  module _ (e : WorldEvent) (w' : WorldState) (k : IsNext w e w') where
    kept : (o : Op) → Among o w.ops → IsRecord w' o
    kept o in' = record_kept w e w' k o (sound.began o in') (records.each o in')

    begun_now : (place j node : ℕ) (d : OperationKind) → (e ≡ beginning_of node d → HasBegun w' (clock w)) → place ≡ clock w + j
        → slice_get (e ∷ []) j ≡ Some (beginning_of node d) → HasBegun w' place
    begun_now place zero node d new at h =
        let same : e ≡ beginning_of node d = cc in
        let now : clock w ≡ place = omega (arith, at) in
        subst (HasBegun w') now (new same)
    begun_now place (suc j) node d new at h = absurd (cc)

    -- what began before began, and what begins now has its record
    all_begun : ((o : Op) → Among o w.ops → IsThere w' o) → ((node : ℕ) (d : OperationKind) → e ≡ beginning_of node d → HasBegun w' (clock w))
        → (place node : ℕ) (d : OperationKind) → slice_get w'.events place ≡ Some (beginning_of node d) → HasBegun w' place
    all_begun there new place node d h =
        elim (get_append w.events (e ∷ []) place (beginning_of node d) (ap (λ (es : List WorldEvent). slice_get es place) (sym k.events) ∙ h)) [
          | inl old ↦ let b = records.all place node d old in let t = there b.op b.among in record { op = t.op; among = t.among; at = t.begin ∙ b.at }
          | inr more ↦ begun_now place more.0 node d (new node d) more.1 more.2
        ]

    -- an event that begins nothing, and moves nothing
    pub quiet_records : w'.ops ≡ w.ops → ((node : ℕ) → begins node e ≡ false) → AreRecords w'
    quiet_records same quiet = record {
      distinct = subst AreDistinct (sym same) records.distinct;
      each = λ o in'. kept o (subst (Among o) same in');
      all = all_begun (λ o in'. record { op = o; among = subst (Among o) (sym same) in'; node = refl; kind = refl; begin = refl })
          (λ node d is. absurd (none_begins e quiet node d is));
    }

  module _ (e : WorldEvent) (q : ℕ) (r : Outcome) (k : IsNext w e (after w e q r)) where
    abbrev next : WorldState
    next = after w e q r

    -- each event that begins an operation has its record in the next world
    all_next : ((node : ℕ) (d : OperationKind) → e ≡ beginning_of node d → HasBegun next (clock w)) → (place node : ℕ) (d : OperationKind)
        → slice_get next.events place ≡ Some (beginning_of node d) → HasBegun next place
    all_next new = all_begun e next k (persists w e q r) new

    module _ (moves_none : r.progress ≡ None) where
      -- an operation may begin
      begun_records : ((y : BegunOp) → r.begun ≡ Some y → (o : Op) → Among o w.ops → o.node ≡ q → o.tag ≡ y.tag → ⊥)
          → ((y : BegunOp) → r.begun ≡ Some y → IsRecord next (new_op q (clock w) y))
          → ((node : ℕ) (d : OperationKind) → e ≡ beginning_of node d → HasBegun next (clock w)) → AreRecords next
      begun_records fresh new begins_now = record {
        distinct = distinct_next q (clock w) r.progress w.ops r.begun records.distinct fresh;
        each = each_after w e q r (IsRecord next)
            (λ o in'. subst (λ (p : Option Progress). IsRecord next (advanced q (clock w) p o)) (sym moves_none) (kept e next k o in')) new;
        all = all_next begins_now;
      }

      -- none begins
      none_records : r.begun ≡ None → ((node : ℕ) → begins node e ≡ false) → AreRecords next
      none_records none quiet =
          let no : (y : BegunOp) → r.begun ≡ Some y → ⊥ = λ y is. (let h : None ≡ Some y = sym none ∙ is in absurd (cc)) in
          begun_records (λ y is. absurd (no y is)) (λ y is. absurd (no y is)) (λ node d is. absurd (none_begins e quiet node d is))

      -- one begins, with the node's next tag
      one_records : (n : NodeState) → fin.get w.nodes q ≡ Some n → (b : BegunOp) → r.begun ≡ Some b → b.tag ≡ n.operations
          → IsRecord next (new_op q (clock w) b) → AreRecords next
      one_records n at b is tag new =
          begun_records fresh (λ y is'. subst (λ (z : BegunOp). IsRecord next (new_op q (clock w) z)) (same_Some b y (sym is ∙ is')) new)
          (λ node d same. record { op = new_op q (clock w) b; among = begun_among w e q r b is; at = refl })
        where
          -- tags of a node's operations are below its count
          fresh : (y : BegunOp) → r.begun ≡ Some y → (o : Op) → Among o w.ops → o.node ≡ q → o.tag ≡ y.tag → ⊥
          fresh y is' o in' nq tq =
              let h = linked.owned o in' in
              let same : h.node ≡ n = the_node (site_of w e q n at linked) o.node h.node nq h.at in
              let here : b.tag ≡ y.tag = ap (λ (z : BegunOp). z.tag) (same_Some b y (sym is ∙ is')) in
              absurd (omega (arith, h.tag, ap (λ (z : NodeState). z.operations) same, tq, here, tag))

  -- how many operations and stores a node has begun, by the events before this one
  module _ (q : ℕ) (n : NodeState) (at : fin.get w.nodes q ≡ Some n) (e : WorldEvent) where
    operations_now : n.operations ≡ operations_of q (take (clock w) (w.events ++ e ∷ []))
    operations_now = sym (ap begun_at at) ∙ tallied.operations q ∙ ap (operations_of q) (sym (take-append_seam w.events (e ∷ [])))

    stores_now : n.stores ≡ stores_of q (take (clock w) (w.events ++ e ∷ []))
    stores_now = sym (ap stored_at at) ∙ tallied.stores q ∙ ap (stores_of q) (sym (take-append_seam w.events (e ∷ [])))

  module _ (q : ℕ) (n : NodeState) (at : fin.get w.nodes q ≡ Some n) where
    store_records : (value : List ℕ) → OfOutcome (λ e a w'. IsNext w e w' → AreRecords w') w (event.Store q value) q (store_outcome n value)
    store_records value k =
        let e : WorldEvent = event.Store q value in
        let w' : WorldState = after w e q (store_outcome n value) in
        let begun : BegunOp = record { tag = n.operations; session = store_session n value } in
        one_records e q (store_outcome n value) k refl n at begun refl refl (record {
          began = event_new w e w' k;
          tagged = operations_now q n at e;
          numbered = λ x is.
              let stores_it : kind.Store (next_stored n value) ≡ kind.Store x = is in
              let same : next_stored n value ≡ x = cc in
              ap (λ (y : Stored). y.number) (sym same) ∙ ap (λ (count : ℕ). count + 1) (stores_now q n at e);
          runs = record { measured = new_measured w e w' k q n (was_now w history) at; until = new_open w' (IsAck (new_op q (clock w) begun)) q (clock w) n };
        })

    collect_records : OfOutcome (λ e a w'. IsNext w e w' → AreRecords w') w (event.Collect q) q (collect_outcome n)
    collect_records k =
        let e : WorldEvent = event.Collect q in
        let w' : WorldState = after w e q (collect_outcome n) in
        let begun : BegunOp = record { tag = n.operations; session = collect_session n } in
        let until = new_open w' (IsReply (new_op q (clock w) begun)) q (clock w) n in
        one_records e q (collect_outcome n) k refl n at begun refl refl (record {
          began = event_new w e w' k;
          tagged = operations_now q n at e;
          numbered = λ x is. let collects_it : kind.Collect ≡ kind.Store x = is in absurd (cc);
          runs = (refl, record { measured = new_measured w e w' k q n (was_now w history) at; until = until });
        })

  module _ (number q : ℕ) (n : NodeState) (m : Message) (at : fin.get w.nodes q ≡ Some n) (sent : slice_get w.sent number ≡ Some m)
      (k : IsNext w (event.Deliver number q) (after w (event.Deliver number q) q (heard n m.from m.body))) where
    abbrev heard_world : WorldState
    heard_world = after w (event.Deliver number q) q (heard n m.from m.body)

    abbrev progress : Option Progress
    progress = progress_of n m.from m.body

    advanced_record : (p : Option Progress) → IsMove n m.from m.body p → (o : Op) → Among o w.ops → IsRecord heard_world (advanced q (clock w) p o)
    advanced_record None x o in' = kept (event.Deliver number q) heard_world k o in'
    advanced_record (Some p) x o in' =
        advance_op q (clock w) p o (IsRecord heard_world)
        (λ nq tq.
        moved_record w number q heard_world k history n at linked m sent o (sound.began o in') (records.each o in') nq
        (heard n m.from m.body) (heard_moves n m.from m.body) in' p tq x)
        (λ _. kept (event.Deliver number q) heard_world k o in')

    deliver_records : AreRecords heard_world
    deliver_records = record {
      distinct = distinct_next q (clock w) progress w.ops None records.distinct (λ y is. absurd (cc));
      each = each_after w (event.Deliver number q) q (heard n m.from m.body) (IsRecord heard_world)
          (advanced_record progress (moves n m.from m.body)) (λ y is. absurd (cc));
      all =
          all_next (event.Deliver number q) q (heard n m.from m.body) k
          (λ node d is. absurd (none_begins (event.Deliver number q) (λ _. refl) node d is));
    }

  pub step_records : (e : WorldEvent) (a : WorldStep) (w' : WorldState) → stepped w e ≡ Ok (a, w') → AreRecords w'
  step_records e a w' h =
      by_event w (λ e a w'. IsNext w e w' → AreRecords w') (record {
        entered = λ q at k. none_records (event.Enter q) q (entered_outcome w.config q) k refl refl (λ _. refl);
        left = λ q n at k. none_records (event.Leave q) q (left_outcome n) k refl refl (λ _. refl);
        crashed = λ q k. quiet_records (event.Crash q) _ k refl (λ _. refl);
        stored = λ q value n at k. store_records q n at value k;
        collected = collect_records;
        delivered = deliver_records;
      }) e a w' h (step_next w e a w' h)
