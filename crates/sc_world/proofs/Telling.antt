-- Each event tells the truth.
use Rattle.std.proofs.Common.{◌≡◌, ℕ, Bool, true, false, cond, ◌==◌, List, [], ◌∷◌, map, Option, Some, None, refl, sym, ap, ◌∙◌, subst, arith, ◌⊎◌, inl, inr}
use Rattle.std.specs.List.{AllByRecursion}
use Rattle.std.specs.FinMap as fin
use Rattle.forms.proofs.Lists.{among_either}
use Rattle.sc_view.specs.Views.{ViewMap, merge}
use Rattle.sc_msg.specs.declared.message.Message.{Message}
use Rattle.sc_msg.specs.declared.message.Body.{Body}
use Rattle.sc_msg.specs.declared.message.CollectReply.{CollectReply as ReplyFields}
use Rattle.sc_msg.specs.declared.message.Body.TheVariants.{Enter, EnterEcho, Join, Leave, Store, StoreAck, StoreEcho, CollectQuery, CollectReply}
use Rattle.sc_operations.specs.declared.session.Phase.{Phase}
use Rattle.sc_operations.specs.declared.session.Session.{Session}
use Rattle.sc_operations.specs.declared.session.Session.TheVariants as session
use Rattle.sc_operations.specs.declared.progress.Advance.{Advance}
use Rattle.sc_operations.specs.declared.progress.Advance.TheVariants as advance
use Rattle.sc_operations.specs.declared.progress.Progress.{Progress}
use Rattle.sc_world.specs.declared.act.BegunOp.{BegunOp}
use Rattle.sc_node.specs.Sessions.{kind_of, stored, open_phase, with_phase, advanced_by, is_reached, count_sender, querying}
use Rattle.sc_node.specs.State.{NodeState}
use Rattle.sc_node.specs.Nodes.{message_from, is_reply, view_after, progress_of, reply_progress, beta_threshold, joins, ack_for, reply_for}
use Rattle.sc_node.specs.Nodes.{answers, store_back, store_of, store_session, collect_session, stored_view, next_stored}
use Rattle.sc_world.specs.declared.event.WorldEvent.{WorldEvent}
use Rattle.sc_world.specs.declared.op.Op.{Op}
use Rattle.sc_world.specs.State.{WorldState}
use Rattle.sc_world.specs.Worlds.{clock, Outcome, advanced, after}
use Rattle.sc_world.specs.Records.{Among}
use Rattle.sc_world.proofs.Changes.{view_of, view_at, IsBegun, IsSound}
use Rattle.sc_world.proofs.Links.{Site, new_op, IsTransition, IsProgress, IsFresh}
use Rattle.sc_world.proofs.Truths.{IsTrue, body_view, IsTruthful, IsThere, IsTold}
use Rattle.sc_world.proofs.Steps.{among-map, each_after, kept_among, begun_among, each-among, advance_op, clock_next, ops_from, node_next}
use Rattle.sc_world.proofs.Handlers.{heard, store_body, store_outcome, collect_outcome, left_outcome, each_if, progress_is}
use Rattle.sc_world.proofs.Handlers.{sends, own_name, heard_moves, store_moves, collect_moves, left_moves, store_number}
use Rattle.sc_world.proofs.Truth.{true_merge, true_put, true_if, lift}

kind_with : (s : Session) (p : Phase) → kind_of (with_phase s p) ≡ kind_of s
kind_with (session.Store e b) p = refl
kind_with (session.Querying q) p = refl
kind_with (session.StoringBack q b) p = refl

-- an operation stays what it was begun for
pub kind_kept : (s : Session) (from : ℕ) (a : Advance) → kind_of (advanced_by from a s) ≡ kind_of s
kind_kept (session.Querying p) from (advance.Turned t v) = refl
kind_kept s from (advance.Turned t v) = refl
kind_kept s from a = kind_with s (count_sender (open_phase s) from)

pub begun_session : (b y : BegunOp) → Some b ≡ Some y → b.session ≡ y.session
begun_session b y is = let same : b ≡ y = cc in ap (λ (z : BegunOp). z.session) same

-- what stays of an operation
pub record SameStart (o y : Op) : Type 0 where
  pub node : y.node ≡ o.node
  pub tag : y.tag ≡ o.tag
  pub kind : kind_of y.session ≡ kind_of o.session
  pub begin : y.begin ≡ o.begin

pub same_start : (q place : ℕ) (p : Option Progress) (o : Op) → SameStart o (advanced q place p o)
same_start q place None o = record { node = refl; tag = refl; kind = refl; begin = refl }
same_start q place (Some p) o =
    advance_op q place p o (SameStart o)
    (λ nq tt'. record { node = refl; tag = refl; kind = kind_kept o.session p.sender p.advance; begin = refl })
    (λ _. record { node = refl; tag = refl; kind = refl; begin = refl })

pub persists : (w : WorldState) (e : WorldEvent) (q : ℕ) (r : Outcome) (o : Op) → Among o w.ops → IsThere (after w e q r) o
persists w e q r o in' =
    let k = same_start q (clock w) r.progress o in
    record { op = advanced q (clock w) r.progress o; among = kept_among w e q r o in'; node = k.node; kind = k.kind; begin = k.begin }

module _ (site : Site) (r : Outcome) (x : IsTransition site.node r) (s : IsSound site.world) (t : IsTruthful site.world) where
  open site use {world as w, event as e, id as q, node as n}

  abbrev next : WorldState
  next = after w e q r

  -- what a message, or a session, has of views is true
  abbrev IsTrueNext : ViewMap → Type 0
  IsTrueNext v = IsTrue next (clock next) v

  abbrev Tells : Body → Type 0
  Tells b = (v : ViewMap) → body_view b ≡ Some v → IsTrueNext v

  pub lifted : (v : ViewMap) → IsTrue w (clock w) v → IsTrue next (clock next) v
  lifted v g = lift w next (clock w) (clock next) v (persists w e q r) (omega (arith, clock_next site r x)) g

  module _ (progress : IsProgress w q n r r.progress) (fresh : IsFresh q r.begun) where
    module _ (bodies : List Body) (names : r.outs ≡ map (message_from q) bodies) (view : IsTrueNext r.node.view) (outs : AllByRecursion Tells bodies)
        (opens : (y : BegunOp) (v : ViewMap) → r.begun ≡ Some y → stored y.session ≡ Some v → IsTrueNext v) where
      views' : (id : ℕ) → IsTrueNext (view_at next id)
      views' id = node_next w e q r (λ (o : Option NodeState). IsTrueNext (view_of o)) id (λ _. view) (λ _. lifted (view_at w id) (t.views id))

      sent' : (m : Message) → Among m next.sent → Among m w.sent ⊎ Tells m.body
      sent' m in' =
          elim (among_either m w.sent r.outs in') [
            | inl h ↦ inl h
            | inr h ↦
                let k = among-map (message_from q) m bodies (subst (Among m) names h) in
                inr (λ v is. each-among Tells k.0 bodies outs k.1 v (sym (ap (λ (y : Message). body_view y.body) k.2) ∙ is))
          ]

      begun' : (o : Op) → Among o next.ops → IsBegun w o → (v : ViewMap) → stored o.session ≡ Some v → IsTrueNext v
      begun' =
          each_after w e q r (λ o. IsBegun w o → (v : ViewMap) → stored o.session ≡ Some v → IsTrueNext v)
          (λ o in' b v held. absurd (omega (arith, b.begin, (same_start q (clock w) r.progress o).begin, s.began o in')))
          (λ y is b v held. opens y v is held)

      pub told : IsTold w next
      told = record {
        next = clock_next site r x;
        persists = persists w e q r;
        ops = ops_from site r x progress fresh;
        views = views';
        sent = sent';
        begun = begun';
      }

module _ (site : Site) (s : IsSound site.world) (t : IsTruthful site.world) where
  open site use {world as w, event as e, id as q, node as n, at, linked}

  own : IsTrue w (clock w) n.view
  own = subst (λ (o : Option NodeState). IsTrue w (clock w) (view_of o)) at (t.views q)

  up : (from : ℕ) (b : Body) (v : ViewMap) → IsTrue w (clock w) v → IsTrue (after w e q (heard n from b)) (clock (after w e q (heard n from b))) v
  up from b v g = lifted site (heard n from b) (heard_moves n from b) s t v g

  -- with what a message that was sent has of views
  merged_true : (m : Message) (v : ViewMap) → Among m w.sent → body_view m.body ≡ Some v → IsTrue w (clock w) (merge n.view v)
  merged_true m v sent has = true_merge w (clock w) n.view v own (t.sent m sent v has)

  -- the view after a message, before the world moves on
  view_true : (from : ℕ) (b : Body) → Among (message_from from b) w.sent → IsTrue w (clock w) (view_after n b)
  view_true from (EnterEcho f) sent = merged_true (message_from from (EnterEcho f)) f.view sent refl
  view_true from (Store m) sent = merged_true (message_from from (Store m)) m.view sent refl
  view_true from (StoreEcho v) sent = merged_true (message_from from (StoreEcho v)) v sent refl
  view_true from (CollectReply r) sent =
      true_if w (clock w) (is_reply n r) (merge n.view r.view) n.view (merged_true (message_from from (CollectReply r)) r.view sent refl) own
  view_true from b sent = own

  abbrev TellsOf : WorldState → Body → Type 0
  TellsOf u b = (v : ViewMap) → body_view b ≡ Some v → IsTrue u (clock u) v

  turned_true : (u : WorldState) (tag : ℕ) (a : Advance) → ((k : ℕ) (y : ViewMap) → a ≡ advance.Turned k y → IsTrue u (clock u) y)
      → AllByRecursion (TellsOf u) (store_of tag a)
  turned_true u tag advance.Counted g = tt
  turned_true u tag advance.Ended g = tt
  turned_true u tag (advance.Turned k y) g = ((λ v is. let same : y ≡ v = cc in subst (IsTrue u (clock u)) same (g k y refl)), tt)

  back_true : (u : WorldState) (p : Option Progress)
      → ((c : Progress) (k : ℕ) (y : ViewMap) → p ≡ Some c → c.advance ≡ advance.Turned k y → IsTrue u (clock u) y) → AllByRecursion (TellsOf u) (store_back p)
  back_true u None g = tt
  back_true u (Some p) g = turned_true u p.tag p.advance (λ k y. g p k y refl)

  by_reached : (c : Bool) (next k : ℕ) (v z : ViewMap) (a : Advance) → cond c (advance.Turned next v) advance.Counted ≡ a → a ≡ advance.Turned k z → v ≡ z
  by_reached true next k v z a is at' = let same : advance.Turned next v ≡ advance.Turned k z = is ∙ at' in cc
  by_reached false next k v z a is at' = let same : advance.Counted ≡ advance.Turned k z = is ∙ at' in absurd (cc)

  by_query : (b : Bool) (o : Option Phase) (from tag : ℕ) (v : ViewMap) (next : ℕ) (c : Progress) (k : ℕ) (z : ViewMap)
      → (let x : Option Progress = cond b (reply_progress from tag v next o) None in x) ≡ Some c → c.advance ≡ advance.Turned k z → v ≡ z
  by_query false o from tag v next c k z h is = absurd (cc)
  by_query true None from tag v next c k z h is = absurd (cc)
  by_query true (Some p) from tag v next c k z h is =
      let full : Bool = is_reached (count_sender p from) in
      let made : Progress = record { tag = tag; sender = from; advance = cond full (advance.Turned next v) advance.Counted } in
      let same : made ≡ c = cc in
      by_reached full next k v z c.advance (ap (λ (x : Progress). x.advance) same) is

  -- what a collect stores back is true
  reply_true : (from : ℕ) (r : ReplyFields) → Among (message_from from (CollectReply r)) w.sent → (c : Progress) (k : ℕ) (z : ViewMap)
      → progress_of n from (CollectReply r) ≡ Some c → c.advance ≡ advance.Turned k z → IsTrue w (clock w) z
  reply_true from r sent c k z h is =
      subst (IsTrue w (clock w)) (by_query (r.to == n.id) (querying (fin.get n.sessions r.tag)) from r.tag (merge n.view r.view) (beta_threshold n) c k z h is)
      (merged_true (message_from from (CollectReply r)) r.view sent refl)

  -- a view that is told is true later
  tells : (u : WorldState) (v z : ViewMap) → IsTrue w (clock w) v → ((z : ViewMap) → IsTrue w (clock w) z → IsTrue u (clock u) z) → Some v ≡ Some z
      → IsTrue u (clock u) z
  tells u v z g lifts is = let same : v ≡ z = cc in lifts z (subst (IsTrue w (clock w)) same g)

  answers_true : (u : WorldState) (from : ℕ) (b : Body) → Among (message_from from b) w.sent
      → ((z : ViewMap) → IsTrue w (clock w) z → IsTrue u (clock u) z) → AllByRecursion (TellsOf u) (answers n from b)
  answers_true u from Enter sent lifts = ((λ v is. tells u n.view v own lifts is), tt)
  answers_true u from (EnterEcho f) sent lifts = each_if (TellsOf u) (joins n from (EnterEcho f)) (Join ∷ []) ((λ y is. absurd (cc)), tt)
  answers_true u from Join sent lifts = ((λ y is. absurd (cc)), tt)
  answers_true u from Leave sent lifts = ((λ y is. absurd (cc)), tt)
  answers_true u from (Store m) sent lifts =
      each_if (TellsOf u) n.joined (StoreAck (ack_for from m.tag) ∷ StoreEcho (merge n.view m.view) ∷ [])
      ((λ y is. absurd (cc)), ((λ y is. tells u (merge n.view m.view) y (view_true from (Store m) sent) lifts is), tt))
  answers_true u from (CollectQuery tag) sent lifts =
      each_if (TellsOf u) n.joined (CollectReply (reply_for n from tag) ∷ []) ((λ y is. tells u n.view y own lifts is), tt)
  answers_true u from (CollectReply r) sent lifts =
      back_true u (progress_of n from (CollectReply r)) (λ c k y is st. lifts y (reply_true from r sent c k y is st))
  answers_true u from b sent lifts = tt

  pub delivery_told : (from : ℕ) (b : Body) → Among (message_from from b) w.sent → IsTold w (after w e q (heard n from b))
  delivery_told from b sent =
      told site (heard n from b) (heard_moves n from b) s t (progress_is site from b sent) tt (answers n from b) (sends site from (answers n from b))
      (up from b (view_after n b) (view_true from b sent))
      (answers_true (after w e q (heard n from b)) from b sent (up from b))
      (λ y v is st. absurd (cc))

  module _ (value : List ℕ) where
    abbrev r : Outcome
    r = store_outcome n value

    abbrev u : WorldState
    u = after w e q r

    abbrev begins : BegunOp
    begins = record { tag = n.operations; session = store_session n value }

    store_view : IsTrue u (clock u) (stored_view n value)
    store_view =
        true_put u (clock u) n.view n.id (next_stored n value) (lifted site r (store_moves n value) s t n.view own)
        (record {
          op = new_op q (clock w) begins;
          among = begun_among w e q r begins refl;
          node = sym (linked.named q n at);
          kind = refl;
          begin = omega (arith, clock_next site r (store_moves n value));
        })

    view_is : (v : ViewMap) → Some (stored_view n value) ≡ Some v → IsTrue u (clock u) v
    view_is v is = let same : stored_view n value ≡ v = cc in subst (IsTrue u (clock u)) same store_view

    pub store_told : IsTold w (after w e q (store_outcome n value))
    store_told =
        told site r (store_moves n value) s t tt (record { replied = refl; acked = refl; number = store_number site value })
        (store_body n value ∷ []) (own_name site (store_body n value)) store_view (view_is, tt)
        (λ y v is st. view_is v (ap (λ (z : Session). stored z) (begun_session begins y is) ∙ st))

  pub collect_told : IsTold w (after w e q (collect_outcome n))
  collect_told =
      told site (collect_outcome n) (collect_moves n) s t tt (record { replied = refl; acked = refl; number = λ e is. absurd (cc) })
      (CollectQuery n.operations ∷ []) (own_name site (CollectQuery n.operations)) (lifted site (collect_outcome n) (collect_moves n) s t n.view own)
      ((λ y is. absurd (cc)), tt)
      (λ y v is st.
      let begins : BegunOp = record { tag = n.operations; session = collect_session n } in
      let k : None ≡ Some v = ap (λ (z : Session). stored z) (begun_session begins y is) ∙ st in
      absurd (cc))

  pub left_told : IsTold w (after w e q (left_outcome n))
  left_told =
      told site (left_outcome n) (left_moves n) s t tt tt (Leave ∷ []) (own_name site Leave)
      (lifted site (left_outcome n) (left_moves n) s t n.view own) ((λ y is. absurd (cc)), tt) (λ y v is st. absurd (cc))
