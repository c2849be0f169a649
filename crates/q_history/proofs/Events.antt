-- Each accepted event of a cluster keeps what is true of every cluster.
use Rattle.std.proofs.Common.{◌≡◌, ℕ, Bool, true, false, cond, List, map, Option, Some, None, refl, sym, ap, ◌∙◌, subst, inl, inr, slice_get, Ok}
use Rattle.std.specs.Prelude.{option_map, IfSome}
use Rattle.std.specs.Ordering.{nat_cmp}
use Rattle.std.specs.FinMap as fin
use Rattle.std.specs.FinSet as set
use Rattle.sc_view.specs.Views.{ViewMap}
use Rattle.sc_node.specs.State.{NodeState}
use Rattle.sc_node.specs.Nodes as node
use Rattle.sc_operations.specs.declared.progress.OpResult.TheVariants as op_result
use Rattle.sc_operations.specs.declared.progress.Ended.{Ended}
use Rattle.sc_world.specs.declared.act.BegunOp.{BegunOp}
use Rattle.sc_world.specs.declared.event.WorldEvent.{WorldEvent}
use Rattle.sc_world.specs.declared.event.WorldEvent.TheVariants as world_event
use Rattle.sc_world.specs.declared.op.Op.{Op}
use Rattle.sc_world.specs.State.{Past, WorldState, world_of}
use Rattle.sc_world.specs.Records.{Among}
use Rattle.sc_world.specs.Regular.{HasReturned}
use Rattle.sc_world.specs.Ledgers.{recorded, stopped}
use Rattle.sc_world.specs.Worlds as world
use Rattle.sc_world.proofs.Finite.{get-insert_same}
use Rattle.forms.proofs.Lists.{among_right}
use Rattle.sc_world.proofs.EveryHistory.{IsLawful, step_lawful, lawful_ends}
use Rattle.q_session.specs.declared.ran.Ran.{Ran}
use Rattle.q_session.specs.declared.job.Job.{Job}
use Rattle.q_desk.proofs.Accepted.{Keeps, keeps_itself}
use Rattle.q_desk.proofs.Changes.{Told, Change, change_job}
use Rattle.q_book.specs.State.{BookState}
use Rattle.q_book.specs.Books as book
use Rattle.q_book.specs.Sends.{handed}
use Rattle.q_history.specs.Headline.{ClusterState}
use Rattle.q_history.specs.World.{nodes_of, world as world_in}
use Rattle.q_history.specs.Heads.{IsHeaded}
use Rattle.q_history.specs.Clusters.{live_at, with_job}
use Rattle.q_history.proofs.Lists.{same_Some, none-some}
use Rattle.q_history.proofs.Ops.{IsOnward, onward_itself, insert_same}
use Rattle.q_history.proofs.World.{node_of, get-nodes, world_live, at_live}
use Rattle.q_history.proofs.Accepted.{begun_op_by, outcome, Acted, ledger, act_step, act_onward, still_onward}
use Rattle.q_history.proofs.Called.{past_in, With, IsDue, IsCalled, tells, acts, past, accepted, node_acted, IsMade, enters, crashes, rests, calls}
use Rattle.q_history.proofs.Kept.{HasView, Owes, IsKnown, IsKept, IsStep, stays_itself, head_in, head_with, desk_changed, put_known, put, put_desk, which_job}

module _ (c : ClusterState) (kept : IsKept c) where
  abbrev w : WorldState
  w = world_in c

  -- the book that is there keeps what another keeps
  keeps_here : (id : ℕ) (b later : BookState) → fin.get c.books id ≡ Some b → Keeps b.desk later.desk → (x : BookState) → fin.get c.books id ≡ Some x
      → Keeps x.desk later.desk
  keeps_here id b later at keeps x here = subst (λ (z : BookState). Keeps z.desk later.desk) (same_Some b x (sym at ∙ here)) keeps

  -- the node is put in again as it was
  same_world : (id : ℕ) (b : BookState) → fin.get c.books id ≡ Some b → IsLawful (world_of (fin.insert (nodes_of c.books) id b.node) c.past)
  same_world id b at =
      subst (λ (m : fin.FinMap nat_cmp NodeState). IsLawful (world_of m c.past))
      (sym (insert_same (nodes_of c.books) id b.node (get-nodes c.books id ∙ ap (option_map node_of) at))) kept.world

  -- the world takes an event of a node
  lawful_next : (e : WorldEvent) (id : ℕ) (r : world.Outcome) → world.stepped w e ≡ Ok (world.told w r, world.after w e id r) → IsLawful (world.after w e id r)
  lawful_next e id r h = step_lawful w e (world.told w r) (world.after w e id r) kept.world h

  -- the node is there in the world
  live_in : (id : ℕ) (b : BookState) → live_at c id ≡ Some b → world.live_at w id ≡ Some b.node
  live_in id b live = world_live c id ∙ ap (option_map node_of) live

  -- ---- a node enters, or crashes

  -- a founder is there, so a node that enters is none
  no_founder : (id : ℕ) (b : Bool) → set.contains (set.from_list {R = nat_cmp} c.past.founders) id ≡ b → fin.get c.books id ≡ None
      → (let o : Option (List ℕ) = None in o) ≡ cond b (Some c.past.founders) None
  no_founder id true is none = let k = kept.founders id is in absurd (none-some k.0 (sym none ∙ k.1))
  no_founder id false is none = refl

  entered_head : (id : ℕ) → fin.get c.books id ≡ None → IsHeaded c id (book.entered c.version c.past.config id).0
  entered_head id none =
      let listed = no_founder id (set.contains (set.from_list {R = nat_cmp} c.past.founders) id) refl none in
      record { version = refl; id = refl; config = refl; founders = listed }

  enter_kept : (id : ℕ) → fin.get c.books id ≡ None
      → (let e = book.entered c.version c.past.config id in IsStep c (With c (recorded c.past (world_event.Enter id) id e.1 None None) c.jobs id e.0))
  enter_kept id none =
      let r : world.Outcome = world.of_entered (node.entered c.past.config id) in
      let e : WorldEvent = world_event.Enter id in
      let b : BookState = (book.entered c.version c.past.config id).0 in
      let absent : fin.get (nodes_of c.books) id ≡ None = get-nodes c.books id ∙ ap (option_map node_of) none in
      put_desk c kept (recorded c.past e id r.outs None None) id b (λ x at. absurd (none-some x (sym none ∙ at)))
      (lawful_next e id r (ap (world.enters w id) absent)) (still_onward w r.node r id e refl) (entered_head id none)
      (record { tied = λ i q at. absurd (none-some q at); right = λ i q view ran at is. absurd (none-some q at) })

  crash_kept : (id : ℕ) (b : BookState) → live_at c id ≡ Some b → IsStep c (record c { past = stopped c.past id })
  crash_kept id b is =
      let d : ClusterState = record c { past = stopped c.past id } in
      record {
        kept = record {
          world = step_lawful w (world_event.Crash id) (world.silent w) (world_in d) kept.world (ap (world.crashes w id) (live_in id b is));
          headed = λ q x at. head_in c d q x refl refl refl (kept.headed q x at);
          founders = kept.founders;
          desks = kept.desks;
          jobs = kept.jobs;
        };
        stays = stays_itself c.books;
        version = refl;
        config = refl;
        founders = refl;
      }

  -- its book is put in as it was
  rest_kept : (id : ℕ) (b : BookState) → fin.get c.books id ≡ Some b → IsStep c (With c c.past c.jobs id b)
  rest_kept id b at =
      put_desk c kept c.past id b (keeps_here id b b at (keeps_itself b.desk)) (same_world id b at) (onward_itself c.past.ops)
      (kept.headed id b at) (kept.desks id b at)

  -- ---- the book of a node takes the call of an entry

  -- what the world makes of what the node does: no record is lost, and those are there that are told of
  record IsActed (id : ℕ) (p : Past) (r : world.Outcome) : Type 0 where
    lawful : IsLawful (world_of (fin.insert (nodes_of c.books) id r.node) (past_in c p))
    onward : IsOnward c.past.ops p.ops
    begun : (a : BegunOp) → r.begun ≡ Some a → (o : Op) × Among o p.ops × (o.node ≡ id) × (o.tag ≡ a.tag)
    returned : (x : Ended) (view : ViewMap) → r.ended ≡ Some x → x.what ≡ op_result.Returned view
        → HasReturned (world_of (fin.insert (nodes_of c.books) id r.node) (past_in c p)) (world.clock w) id x.tag view

  acted_by : (id : ℕ) (b : BookState) → live_at c id ≡ Some b → (o : Option WorldEvent) (r : world.Outcome) → Acted id c.past.sent o b.node r
      → IsActed id (ledger c.past id o r) r
  acted_by id b live None r h =
      subst (IsActed id c.past) h
      (record {
        lawful = same_world id b (at_live c id b live);
        onward = onward_itself c.past.ops;
        begun = λ a is. absurd (none-some a is);
        returned = λ x view is what. absurd (none-some x is);
      })
  acted_by id b live (Some e) r h =
      let w' : WorldState = world.after w e id r in
      let step = act_step w b.node r e id h.0 (live_in id b live) h.1 in
      let at = get-nodes c.books id ∙ ap (option_map node_of) (at_live c id b live) in
      record {
        lawful = lawful_next e id r step;
        onward = act_onward w b.node r id e kept.world.invariant.linked at h.1;
        begun = λ begun_op is.
            let o : Op = record { node = id; tag = begun_op.tag; begin = world.clock w; end = None; session = begun_op.session } in (
              o,
              among_right o (map (world.advanced id (world.clock w) r.progress) w.ops) (world.op_begun id (world.clock w) r.begun)
                  (subst (λ (x : Option BegunOp). Among o (world.op_begun id (world.clock w) x)) (sym is) (inl refl)),
              refl,
              refl,
            );
        returned = λ x view is what.
            subst (λ (q : ℕ). HasReturned w' (world.clock w) q x.tag view) h.0
            ((lawful_ends w kept.world e (world.told w r) w' step).returned x view is what);
      }

  module _ (d : ClusterState) (k : IsCalled c d) where
    abbrev told : Told
    told = tells c d k

    abbrev p : Past
    p = past c d k

    abbrev o : Option Job
    o = handed k.book k.entry

    at : fin.get c.books k.id ≡ Some k.book
    at = at_live c k.id k.book k.live

    did : IsActed k.id p (outcome told k.later.node)
    did = acted_by k.id k.book k.live (acts c d k) (outcome told k.later.node) (node_acted c d k)

    -- the job whose answer is recorded has its program at this desk
    due_known : (j : Job) → IsKnown c.books j → j.node ≡ k.id → slice_get k.book.desk.programs j.program ≡ Some j.certified
    due_known j known by =
        ap (λ (x : BookState). slice_get x.desk.programs j.program) (same_Some k.book known.book (sym at ∙ ap (fin.get c.books) (sym by) ∙ known.at))
        ∙ known.certified

    owes : Owes c.past.ops p.ops did.onward k.id k.book.desk told
    owes = record {
      begun = λ q b.
          let h = did.begun (begun_op_by b.by) (ap (option_map begun_op_by) b.told) in
          record { op = h.0; among = h.1; by = h.2; tagged = h.3 ∙ b.tagged; has = subst (HasView h.0) (sym b.phase) tt };
      returned = λ q view r.
          let h = did.returned r.by view r.told r.what in
          record { op = h.op; among = h.among; by = h.by; tagged = h.tagged ∙ r.tagged; has = h.returned };
      answer = λ j ran is.
          let due : IsDue c k.id j ran = subst (λ (x : Option (Job × Ran)). IfSome x (λ y. IsDue c k.id y.0 y.1)) is k.due in
          (due_known j (kept.jobs due.number j due.at) due.by, due.right);
    }

    head : IsHeaded c k.id k.later
    head = subst (IsHeaded c k.id) (accepted c d k).same (head_with c k.id k.book k.later.node k.later.desk (kept.headed k.id k.book at))

    keeps : (x : BookState) → fin.get c.books k.id ≡ Some x → Keeps x.desk k.later.desk
    keeps = keeps_here k.id k.book k.later at (accepted c d k).keeps

    -- a job that is handed out is that of a query of this desk
    new_known : (j : Job) → o ≡ Some j → IsKnown (fin.insert c.books k.id k.later) j
    new_known j some =
        let a = accepted c d k in
        let ready = change_job k.book.desk k.book.id told k.later.desk j (subst (Change k.book.desk k.book.id told k.later.desk) some a.change) in
        record {
          book = k.later;
          at = ap (fin.get (fin.insert c.books k.id k.later)) (ready.by ∙ (kept.headed k.id k.book at).id) ∙ get-insert_same c.books k.id k.later;
          certified = a.keeps.programs j.program j.certified ready.certified;
        }

    called_kept : IsStep c d
    called_kept =
        let a = accepted c d k in
        subst (IsStep c) k.is
        (put c kept p k.id k.later keeps did.lawful did.onward head
        (desk_changed c.past.ops p.ops did.onward k.id k.book.desk k.later.desk k.book.id told o (kept.desks k.id k.book at) a.keeps owes a.change)
        (with_job c.jobs o)
        (λ i j here. elim (which_job c.jobs o i j here) [
          | inl old ↦ put_known c kept p k.id k.later keeps j (kept.jobs i j old)
          | inr new ↦ new_known j new
        ]))

  pub made_kept : (d : ClusterState) → IsMade c d → IsStep c d
  made_kept d (enters id none is) = subst (IsStep c) is (enter_kept id none)
  made_kept d (crashes id b live is) = subst (IsStep c) is (crash_kept id b live)
  made_kept d (rests id b live is) = subst (IsStep c) is (rest_kept id b (at_live c id b live))
  made_kept d (calls k) = called_kept d k
