-- What each call and each kind of message makes of a node.
use Rattle.std.proofs.Common.{◌≡◌, ℕ, ◌+◌, ◌≤◌, ◌<◌, Bool, true, false, cond, ◌==◌, ◌&&◌, List, [], ◌∷◌, ◌++◌, map}
use Rattle.std.proofs.Common.{Option, Some, None, is_some, refl, sym, ap, ◌∙◌, subst, arith, ◌⊎◌, inl, inr}
use Rattle.std.proofs.lemmas.Bool.{eqb-true}
use Rattle.std.specs.Ordering.{nat_cmp}
use Rattle.std.specs.List.{AllByRecursion}
use Rattle.std.specs.FinMap as fin
use Rattle.std.proofs.lemmas.List.{length_push}
use Rattle.forms.proofs.Lists.{among_either}
use Rattle.sc_view.specs.declared.view.Stored.{Stored}
use Rattle.sc_view.specs.Views.{ViewMap, number_at, IsBelow, merge}
use Rattle.sc_members.specs.Members.{Config, with_left}
use Rattle.sc_msg.specs.declared.message.Message.{Message}
use Rattle.sc_msg.specs.declared.message.Body.{Body}
use Rattle.sc_msg.specs.declared.message.CollectReply.{CollectReply as ReplyFields}
use Rattle.sc_msg.specs.declared.message.StoreAck.{StoreAck as AckFields}
use Rattle.sc_msg.specs.declared.message.Body.TheVariants.{Enter, EnterEcho, Join, Leave, Store, StoreAck, StoreEcho, CollectQuery, CollectReply}
use Rattle.sc_operations.specs.declared.session.OperationKind.TheVariants as kind
use Rattle.sc_operations.specs.declared.session.Phase.{Phase}
use Rattle.sc_operations.specs.declared.session.StoreBack.{StoreBack}
use Rattle.sc_operations.specs.declared.session.Session.{Session}
use Rattle.sc_operations.specs.declared.session.Session.TheVariants as session
use Rattle.sc_operations.specs.declared.progress.Advance.{Advance}
use Rattle.sc_operations.specs.declared.progress.Advance.TheVariants as advance
use Rattle.sc_operations.specs.declared.progress.Progress.{Progress}
use Rattle.sc_world.specs.declared.act.BegunOp.{BegunOp}
use Rattle.sc_node.specs.Sessions.{back_of, stored, view_in, open_phase, counted, advanced_by, apply, ends, is_reached, count_sender, querying, storing}
use Rattle.sc_node.specs.State.{NodeState}
use Rattle.sc_node.specs.Nodes as node
use Rattle.sc_node.specs.Nodes.{message_from, is_reply, view_after, progress_of, sessions_after, ack_progress, reply_progress, beta_threshold}
use Rattle.sc_node.specs.Nodes.{joins, ack_for, reply_for, store_under, answers, store_back, store_of, delivery, node_after, begun}
use Rattle.sc_node.specs.Nodes.{opened, store_session, collect_session, stored_view, next_stored, entered, entering}
use Rattle.sc_world.specs.declared.event.WorldEvent.{WorldEvent}
use Rattle.sc_world.specs.declared.op.Op.{Op}
use Rattle.sc_world.specs.State.{WorldState}
use Rattle.sc_world.specs.Worlds.{clock, Outcome, of_entered, of_left, of_begun, of_delivered, end_at, advanced, after}
use Rattle.sc_world.specs.Records.{Among}
use Rattle.sc_world.proofs.Changes.{view_of, view_at, Kept, IsAbout, IsSent, IsBodySent, IsChange}
use Rattle.sc_world.proofs.Links.{IsLinked, Site, session_moved, session_after, IsTransition, AckMakes, ReplyMakes, IsMove, IsProgress, IsBodyKnown}
use Rattle.sc_world.proofs.Finite.{get-insert, get-insert_same, get-remove}
use Rattle.sc_view.proofs.ViewLemmas.{below_refl, below_merge, merge_above, below_put, put_has}
use Rattle.sc_world.proofs.Steps.{advance_op, each_after, node_next, the_node, is_open, known_next, view_next, is_change, is_linked}

-- what each event makes of a node, where it is accepted
abbrev pub heard : NodeState → ℕ → Body → Outcome
heard n from b = of_delivered (delivery n from b, node_after n from b)

abbrev pub store_body : NodeState → List ℕ → Body
store_body n value = Store (store_under n.operations (stored_view n value))

abbrev pub store_outcome : NodeState → List ℕ → Outcome
store_outcome n value =
    let s : Session = store_session n value in
    of_begun (begun n s (store_body n value), opened n (stored_view n value) (n.stores + 1) s)

abbrev pub collect_outcome : NodeState → Outcome
collect_outcome n = of_begun (begun n (collect_session n) (CollectQuery n.operations), opened n n.view n.stores (collect_session n))

abbrev pub left_outcome : NodeState → Outcome
left_outcome n = of_left (message_from n.id Leave ∷ [], record n { facts = with_left n.facts n.id; gone = true })

abbrev pub entered_outcome : Config → ℕ → Outcome
entered_outcome c id = of_entered (entered c id)

below_if : (b : Bool) (v u : ViewMap) → IsBelow v u → IsBelow v (cond b u v)
below_if true v u h = h
below_if false v u h = below_refl v

view_grows : (n : NodeState) (b : Body) → IsBelow n.view (view_after n b)
view_grows n (EnterEcho e) = below_merge n.view e.view
view_grows n (Store s) = below_merge n.view s.view
view_grows n (StoreEcho v) = below_merge n.view v
view_grows n (CollectReply r) = below_if (is_reply n r) n.view (merge n.view r.view) (below_merge n.view r.view)
view_grows n b = below_refl n.view

-- a look-up after an operation moved
none_moved : (m : fin.FinMap nat_cmp Session) (p : Progress) (t : ℕ) (b : Bool) → (t == p.tag) ≡ b → fin.get m p.tag ≡ None
    → fin.get m t ≡ cond b (session_moved p (fin.get m t)) (fin.get m t)
none_moved m p t false is none = refl
none_moved m p t true is none =
    let at : fin.get m t ≡ None = ap (fin.get m) (eqb-true t p.tag is) ∙ none in
    at ∙ sym (ap (session_moved p) at)

some_moved : (m : fin.FinMap nat_cmp Session) (p : Progress) (t : ℕ) (s : Session) (b : Bool) → (t == p.tag) ≡ b → fin.get m p.tag ≡ Some s
    → cond b (session_moved p (Some s)) (fin.get m t) ≡ cond b (session_moved p (fin.get m t)) (fin.get m t)
some_moved m p t s false is at = refl
some_moved m p t s true is at = ap (session_moved p) (sym (ap (fin.get m) (eqb-true t p.tag is) ∙ at))

table_moved : (m : fin.FinMap nat_cmp Session) (p : Progress) (s : Session) (t : ℕ) (b : Bool)
    → fin.get (cond b (fin.remove m p.tag) (fin.insert m p.tag (apply p s))) t ≡ cond (t == p.tag) (cond b None (Some (apply p s))) (fin.get m t)
table_moved m p s t true = get-remove m p.tag t
table_moved m p s t false = get-insert m p.tag (apply p s) t

sessions_of : (m : fin.FinMap nat_cmp Session) (p : Progress) (t : ℕ) (o : Option Session) → fin.get m p.tag ≡ o
    → fin.get (node.session_moved m p o) t ≡ cond (t == p.tag) (session_moved p (fin.get m t)) (fin.get m t)
sessions_of m p t None is = none_moved m p t (t == p.tag) refl is
sessions_of m p t (Some s) is = table_moved m p s t (ends p.advance) ∙ some_moved m p t s (t == p.tag) refl is

pub get-sessions_after : (m : fin.FinMap nat_cmp Session) (p : Option Progress) (t : ℕ) → fin.get (sessions_after m p) t ≡ session_after p t (fin.get m t)
get-sessions_after m None t = refl
get-sessions_after m (Some p) t = sessions_of m p t (fin.get m p.tag) refl

pub heard_moves : (n : NodeState) (from : ℕ) (b : Body) → IsTransition n (heard n from b)
heard_moves n from b = record {
  id = refl;
  grows = view_grows n b;
  more = omega arith;
  sessions = λ t lt. get-sessions_after n.sessions (progress_of n from b) t;
  begun = tt;
}

pub each_if : {X : Type 0} (P : X → Type 0) (b : Bool) (xs : List X) → AllByRecursion P xs → AllByRecursion P (cond b xs [])
each_if P true xs h = h
each_if P false xs h = tt

-- what counting makes of a session
ack_counted : (s : Session) (b : StoreBack) (from : ℕ) → back_of s ≡ Some b → AckMakes s (counted s from) from
ack_counted (session.Store e c) b from is = record { kind = refl; view = refl; replied = refl; acked = refl }
ack_counted (session.Querying p) b from is = absurd (cc)
ack_counted (session.StoringBack p c) b from is = record { kind = refl; view = refl; replied = refl; acked = refl }

ack_makes : (c : Bool) (s : Session) (b : StoreBack) (from : ℕ) → back_of s ≡ Some b
    → AckMakes s (advanced_by from (cond c advance.Ended advance.Counted) s) from
ack_makes true s b from is = ack_counted s b from is
ack_makes false s b from is = ack_counted s b from is

reply_makes : (c : Bool) (p : Phase) (from next : ℕ) (v v' : ViewMap) → v ≡ v'
    → ReplyMakes (session.Querying p) (advanced_by from (cond c (advance.Turned next v) advance.Counted) (session.Querying p)) from v'
reply_makes true p from next v v' same =
    record { kind = refl; replied = refl; view = inr (ap (λ (y : ViewMap). let o : Option ViewMap = Some y in o) same, refl) }
reply_makes false p from next v v' same = record { kind = refl; replied = refl; view = inl refl }

reply_stays : (c : Bool) (next : ℕ) (v : ViewMap) (place : ℕ) → end_at place (cond c (advance.Turned next v) advance.Counted) ≡ None
reply_stays true next v place = refl
reply_stays false next v place = refl

-- which messages move an operation, and how
module _ (n : NodeState) (from : ℕ) where
  ack_at : (a : AckFields) (s : Session) (b : StoreBack) → (a.to == n.id) ≡ true → fin.get n.sessions a.tag ≡ Some s → back_of s ≡ Some b
      → IsMove n from (StoreAck a) (ack_progress from a.tag (Some (open_phase s)))
  ack_at a s b is at back =
      let to : a.to ≡ n.id = eqb-true a.to n.id is in
      inl (record { session = s; back = b; was = at; stores = back; ack = a; body = refl; to = to; tag = refl; sender = refl; advance = refl })

  ack_move : (a : AckFields) (c : Bool) (s : Option Session) → (a.to == n.id) ≡ c → fin.get n.sessions a.tag ≡ s
      → IsMove n from (StoreAck a) (cond c (ack_progress from a.tag (storing s)) None)
  ack_move a true (Some (session.Store e b)) is at = ack_at a (session.Store e b) b is at refl
  ack_move a true (Some (session.StoringBack p b)) is at = ack_at a (session.StoringBack p b) b is at refl
  ack_move a c s is at = tt

  reply_move : (r : ReplyFields) (c : Bool) (s : Option Session) → (r.to == n.id) ≡ c → fin.get n.sessions r.tag ≡ s
      → IsMove n from (CollectReply r) (cond c (reply_progress from r.tag (merge n.view r.view) (beta_threshold n) (querying s)) None)
  reply_move r true (Some (session.Querying p)) is at =
      let test : is_reply n r ≡ true = ap (λ b. b && is_some (querying (fin.get n.sessions r.tag))) is ∙ ap (λ (o : Option Session). is_some (querying o)) at in
      inr (record {
        phase = p;
        was = at;
        reply = r;
        body = refl;
        to = eqb-true r.to n.id is;
        tag = refl;
        sender = refl;
        learned = sym (ap (λ b. cond b (merge n.view r.view) n.view) test);
        advance = refl;
      })
  reply_move r c s is at = tt

  pub moves : (b : Body) → IsMove n from b (progress_of n from b)
  moves (StoreAck a) = ack_move a (a.to == n.id) (fin.get n.sessions a.tag) refl refl
  moves (CollectReply r) = reply_move r (r.to == n.id) (fin.get n.sessions r.tag) refl refl
  moves b = tt

module _ (site : Site) (from : ℕ) where
  open site use {world as w, event as e, id as q, node as n, at, linked}

  -- the world after a message
  abbrev heard_world : Body → WorldState
  heard_world b = after w e q (heard n from b)

  -- the message, as its parts are known
  said : (b c : Body) (sender : ℕ) → b ≡ c → sender ≡ from → Among (message_from from b) w.sent → Among (message_from sender c) w.sent
  said b c sender body is sent =
      subst (λ (x : ℕ). Among (message_from x c) w.sent) (sym is) (subst (λ (y : Body). Among (message_from from y) w.sent) body sent)

  progress_by : (b : Body) (p : Option Progress) → IsMove n from b p → Among (message_from from b) w.sent → IsProgress w q n (heard n from b) p
  progress_by b None k sent = tt
  progress_by b (Some p) (inl k) sent =
      inl (record {
        session = k.session;
        view = k.back.view;
        was = k.was;
        held = ap view_in k.stores;
        ack = k.ack;
        sent = said b (StoreAck k.ack) p.sender k.body k.sender sent;
        to = k.to ∙ linked.named q n at;
        tag = k.tag;
        makes =
            subst (λ (a : Advance). AckMakes k.session (advanced_by p.sender a k.session) p.sender) (sym k.advance)
            (ack_makes (is_reached (count_sender (open_phase k.session) from)) k.session k.back p.sender k.stores);
      })
  progress_by b (Some p) (inr k) sent =
      let s : Session = session.Querying k.phase in
      let full : Bool = is_reached (count_sender k.phase from) in
      let view : ViewMap = merge n.view k.reply.view in
      inr (record {
        session = s;
        was = k.was;
        held = refl;
        reply = k.reply;
        sent = said b (CollectReply k.reply) p.sender k.body k.sender sent;
        to = k.to ∙ linked.named q n at;
        tag = k.tag;
        makes =
            subst (λ (a : Advance). ReplyMakes s (advanced_by p.sender a s) p.sender (view_after n b)) (sym k.advance)
            (reply_makes full k.phase p.sender (beta_threshold n) view (view_after n b) k.learned);
        stays = λ place. ap (end_at place) k.advance ∙ reply_stays full (beta_threshold n) view place;
        learns = subst (λ (v : ViewMap). IsBelow k.reply.view v) k.learned (merge_above n.view k.reply.view);
      })

  pub progress_is : (b : Body) → Among (message_from from b) w.sent → IsProgress w q n (heard n from b) (progress_of n from b)
  progress_is b sent = progress_by b (progress_of n from b) (moves n from b) sent

  abbrev HoldsAt : ℕ → ViewMap → Op → Type 0
  HoldsAt tag v o = o.node ≡ q → o.tag ≡ tag → stored o.session ≡ Some v

  -- what a collect stores back is sent, and is what its record has
  turned_sent : (p : Progress) (a : Advance) (f : ReplyFields) (r : Outcome) → r.progress ≡ Some p → r.begun ≡ None → IsTransition n r
      → IsMove n from (CollectReply f) (Some p) → p.advance ≡ a → AllByRecursion (IsBodySent w (after w e q r) q) (store_of p.tag a)
  turned_sent p advance.Counted f r moves begins x m is = tt
  turned_sent p advance.Ended f r moves begins x m is = tt
  turned_sent p (advance.Turned next v) f r moves begins x m is = (
    each_after w e q r (HoldsAt p.tag v)
        (λ o in'.
        subst (λ (y : Option Progress). HoldsAt p.tag v (advanced q (clock w) y o)) (sym moves)
        (advance_op q (clock w) p o (HoldsAt p.tag v)
        (λ a b _ _. elim m [
          | inl ack ↦ let h : CollectReply f ≡ StoreAck ack.ack = ack.body in absurd (cc)
          | inr reply ↦
              let turns = (is_open site r x o (session.Querying reply.phase) p.tag in' a b reply.was).1 in
              λ i. stored (advanced_by p.sender (is i) (turns i))
        ])
        (λ other nq tt'. absurd (other nq tt'))))
        (λ y new. let none : None ≡ Some y = sym begins ∙ new in absurd (cc)),
    tt,
  )

  back_sent : (p : Option Progress) (f : ReplyFields) (r : Outcome) → r.progress ≡ p → r.begun ≡ None → IsTransition n r
      → IsMove n from (CollectReply f) p → AllByRecursion (IsBodySent w (after w e q r) q) (store_back p)
  back_sent None f r moves begins x m = tt
  back_sent (Some p) f r moves begins x m = turned_sent p p.advance f r moves begins x m refl

  answers_sent : (b : Body) → Among (message_from from b) w.sent → AllByRecursion (IsBodySent w (heard_world b) q) (answers n from b)
  answers_sent Enter sent = (tt, tt)
  answers_sent (EnterEcho f) sent = each_if (IsBodySent w (heard_world (EnterEcho f)) q) (joins n from (EnterEcho f)) (Join ∷ []) (tt, tt)
  answers_sent Join sent = (tt, tt)
  answers_sent Leave sent = (tt, tt)
  answers_sent (Store s) sent =
      let view : view_at (heard_world (Store s)) q ≡ merge n.view s.view = view_next site (heard n from (Store s)) (heard_moves n from (Store s)) in
      each_if (IsBodySent w (heard_world (Store s)) q) n.joined (StoreAck (ack_for from s.tag) ∷ StoreEcho (merge n.view s.view) ∷ [])
      ((s, sent, refl, subst (λ (y : ViewMap). IsBelow s.view y) (sym view) (merge_above n.view s.view)), (tt, tt))
  answers_sent (CollectQuery t) sent =
      each_if (IsBodySent w (heard_world (CollectQuery t)) q) n.joined (CollectReply (reply_for n from t) ∷ [])
      ((sent, subst (λ (y : ViewMap). IsBelow y n.view) (sym (ap view_of at)) (below_refl n.view)), tt)
  answers_sent (CollectReply r) sent =
      let b : Body = CollectReply r in
      back_sent (progress_of n from b) r (heard n from b) refl refl (heard_moves n from b) (moves n from b)
  answers_sent b sent = tt

  back_known : (p : Option Progress) (r r' : Outcome) → IsTransition n r → IsProgress w q n r' p → AllByRecursion (IsBodyKnown (after w e q r) q) (store_back p)
  back_known None r r' x k = tt
  back_known (Some p) r r' x k = go p.advance
    where
      known_tag : (node tag : ℕ) → (q ≡ node) × (p.tag ≡ tag) → (m : NodeState) × (fin.get w.nodes node ≡ Some m) × (tag < m.operations)
      known_tag node tag about =
          elim k [
            | inl a ↦ linked.known (message_from p.sender (StoreAck a.ack)) a.sent node tag (a.to ∙ about.0, a.tag ∙ about.1)
            | inr a ↦ linked.known (message_from p.sender (CollectReply a.reply)) a.sent node tag (a.to ∙ about.0, a.tag ∙ about.1)
          ]

      go : (a : Advance) → AllByRecursion (IsBodyKnown (after w e q r) q) (store_of p.tag a)
      go advance.Counted = tt
      go advance.Ended = tt
      go (advance.Turned next v) = ((λ node tag about. let h = known_tag node tag about in known_next site r x node tag h.0 h.1 h.2), tt)

  -- whom a message that was sent is about is known later too
  still_known : (b : Body) (m : Message) → Among m w.sent → (node tag : ℕ) → IsAbout m node tag
      → (m' : NodeState) × (fin.get (heard_world b).nodes node ≡ Some m') × (tag < m'.operations)
  still_known b m sent node tag about =
      let h = linked.known m sent node tag about in known_next site (heard n from b) (heard_moves n from b) node tag h.0 h.1 h.2

  answers_known : (b : Body) → Among (message_from from b) w.sent → AllByRecursion (IsBodyKnown (heard_world b) q) (answers n from b)
  answers_known Enter sent = ((λ p t about. absurd about), tt)
  answers_known (EnterEcho f) sent =
      each_if (IsBodyKnown (heard_world (EnterEcho f)) q) (joins n from (EnterEcho f)) (Join ∷ []) ((λ p t about. absurd about), tt)
  answers_known Join sent = ((λ p t about. absurd about), tt)
  answers_known Leave sent = ((λ p t about. absurd about), tt)
  answers_known (Store s) sent =
      each_if (IsBodyKnown (heard_world (Store s)) q) n.joined (StoreAck (ack_for from s.tag) ∷ StoreEcho (merge n.view s.view) ∷ [])
      ((λ node tag about. still_known (Store s) (message_from from (Store s)) sent node tag about), ((λ p t about. absurd about), tt))
  answers_known (CollectQuery t) sent =
      each_if (IsBodyKnown (heard_world (CollectQuery t)) q) n.joined (CollectReply (reply_for n from t) ∷ [])
      ((λ node tag about. still_known (CollectQuery t) (message_from from (CollectQuery t)) sent node tag about), tt)
  answers_known (CollectReply r) sent =
      let b : Body = CollectReply r in
      back_known (progress_of n from b) (heard n from b) (heard n from b) (heard_moves n from b) (progress_is b sent)
  answers_known b sent = tt

  -- a node sends in its own name
  pub sends : (bodies : List Body) → map (message_from n.id) bodies ≡ map (message_from q) bodies
  sends bodies = ap (λ (i : ℕ). map (message_from i) bodies) (linked.named q n at)

  pub delivery_change : (b : Body) → Among (message_from from b) w.sent → IsChange w (after w e q (heard n from b))
  delivery_change b sent =
      is_change site (heard n from b) (heard_moves n from b) (progress_is b sent) tt (answers n from b) (sends (answers n from b)) (answers_sent b sent)

  pub delivery_linked : (b : Body) → Among (message_from from b) w.sent → IsLinked (after w e q (heard n from b))
  delivery_linked b sent =
      is_linked site (heard n from b) (heard_moves n from b) (progress_is b sent) (answers n from b) (sends (answers n from b)) (answers_known b sent)

other_tag : (m : fin.FinMap nat_cmp Session) (k : ℕ) (s : Session) (t : ℕ) (b : Bool) → (t == k) ≡ b → t < k → cond b (Some s) (fin.get m t) ≡ fin.get m t
other_tag m k s t true is lt = let e : t ≡ k = eqb-true t k is in absurd (omega arith)
other_tag m k s t false is lt = refl

-- a session that is opened leaves the others
opened_sessions : (m : fin.FinMap nat_cmp Session) (k : ℕ) (s : Session) (t : ℕ) → t < k → fin.get (fin.insert m k s) t ≡ fin.get m t
opened_sessions m k s t lt = get-insert m k s t ∙ other_tag m k s t (t == k) refl lt

pub store_moves : (n : NodeState) (value : List ℕ) → IsTransition n (store_outcome n value)
store_moves n value = record {
  id = refl;
  grows = below_put n.view n.id (next_stored n value);
  more = omega arith;
  sessions = λ t lt. opened_sessions n.sessions n.operations (store_session n value) t lt;
  begun = (refl, get-insert_same n.sessions n.operations (store_session n value), omega arith);
}

pub collect_moves : (n : NodeState) → IsTransition n (collect_outcome n)
collect_moves n = record {
  id = refl;
  grows = below_refl n.view;
  more = omega arith;
  sessions = λ t lt. opened_sessions n.sessions n.operations (collect_session n) t lt;
  begun = (refl, get-insert_same n.sessions n.operations (collect_session n), omega arith);
}

pub left_moves : (n : NodeState) → IsTransition n (left_outcome n)
left_moves n = record { id = refl; grows = below_refl n.view; more = omega arith; sessions = λ t lt. refl; begun = tt }

module _ (site : Site) where
  open site use {world as w, event as e, id as q, node as n, at, linked}

  pub own_name : (b : Body) → message_from n.id b ∷ [] ≡ map (message_from q) (b ∷ [])
  own_name b = ap (λ (i : ℕ). message_from i b ∷ []) (linked.named q n at)

  -- the store message has the view of its operation
  store_sent : (value : List ℕ) → (o : Op) → Among o (after w e q (store_outcome n value)).ops → o.node ≡ q → o.tag ≡ n.operations
      → stored o.session ≡ Some (stored_view n value)
  store_sent value =
      let made : BegunOp = record { tag = n.operations; session = store_session n value } in
      each_after w e q (store_outcome n value) (λ o. o.node ≡ q → o.tag ≡ n.operations → stored o.session ≡ Some (stored_view n value))
      (λ o in' nq tt'.
      let k = linked.owned o in' in
      absurd (omega (arith, k.tag, tt', ap (λ (y : NodeState). y.operations) (the_node site o.node k.node nq k.at))))
      (λ y is _ _. let same : made ≡ y = cc in ap (λ (z : BegunOp). stored z.session) (sym same))

  pub store_number : (value : List ℕ) (s : Stored) → kind.Store (next_stored n value) ≡ kind.Store s
      → (v : ViewMap) × (Some (stored_view n value) ≡ Some v) × (s.number ≤ number_at v q)
  store_number value s is =
      let entry : next_stored n value ≡ s = cc in
      let name : number_at (stored_view n value) n.id ≡ number_at (stored_view n value) q = ap (number_at (stored_view n value)) (linked.named q n at) in
      (stored_view n value, refl, omega (arith, ap (λ (x : Stored). x.number) entry, put_has n.view n.id (next_stored n value), name))

  pub store_change : (value : List ℕ) → IsChange w (after w e q (store_outcome n value))
  store_change value =
      is_change site (store_outcome n value) (store_moves n value) tt (record { replied = refl; acked = refl; number = store_number value })
      (store_body n value ∷ []) (own_name (store_body n value)) (store_sent value, tt)

  begun_known : (r : Outcome) (node tag : ℕ) → n.operations < r.node.operations → (q ≡ node) × (n.operations ≡ tag)
      → (m : NodeState) × (fin.get (after w e q r).nodes node ≡ Some m) × (tag < m.operations)
  begun_known r node tag lt about =
      (r.node, ap (fin.get (fin.insert w.nodes q r.node)) (sym about.0) ∙ get-insert_same w.nodes q r.node, omega (arith, about.1, lt))

  pub store_linked : (value : List ℕ) → IsLinked (after w e q (store_outcome n value))
  store_linked value =
      is_linked site (store_outcome n value) (store_moves n value) tt (store_body n value ∷ []) (own_name (store_body n value))
      ((λ p t about. begun_known (store_outcome n value) p t (omega arith) about), tt)

  pub collect_change : IsChange w (after w e q (collect_outcome n))
  collect_change =
      is_change site (collect_outcome n) (collect_moves n) tt (record { replied = refl; acked = refl; number = λ e is. absurd (cc) })
      (CollectQuery n.operations ∷ []) (own_name (CollectQuery n.operations)) (tt, tt)

  pub collect_linked : IsLinked (after w e q (collect_outcome n))
  collect_linked =
      is_linked site (collect_outcome n) (collect_moves n) tt (CollectQuery n.operations ∷ []) (own_name (CollectQuery n.operations))
      ((λ p t about. begun_known (collect_outcome n) p t (omega arith) about), tt)

  pub left_change : IsChange w (after w e q (left_outcome n))
  left_change = is_change site (left_outcome n) (left_moves n) tt tt (Leave ∷ []) (own_name Leave) (tt, tt)

  pub left_linked : IsLinked (after w e q (left_outcome n))
  left_linked = is_linked site (left_outcome n) (left_moves n) tt (Leave ∷ []) (own_name Leave) ((λ p t about. absurd about), tt)

module _ (w : WorldState) (e : WorldEvent) (q : ℕ) (linked : IsLinked w) where
  pub kept_op : (o : Op) → Among o (map (advanced q (clock w) None) w.ops ++ []) → Among o w.ops
  kept_op = each_after w e q (entered_outcome w.config q) (λ o. Among o w.ops) (λ o in'. in') (λ y is. absurd (cc))

  module _ (c : Config) (absent : fin.get w.nodes q ≡ None) where
    abbrev entry_world : WorldState
    entry_world = after w e q (entered_outcome c q)

    enter_grows : (id : ℕ) → IsBelow (view_at w id) (view_at entry_world id)
    enter_grows id =
        node_next w e q (entered_outcome c q) (λ (o : Option NodeState). IsBelow (view_at w id) (view_of o)) id
        (λ here. subst (λ (v : ViewMap). IsBelow v fin.empty) (sym (ap view_of (ap (fin.get w.nodes) here ∙ absent))) (below_refl fin.empty))
        (λ there. below_refl _)

    enter_sent : (m : Message) → Among m entry_world.sent → Among m w.sent ⊎ IsSent w entry_world m
    enter_sent m in' = elim (among_either m w.sent (message_from q Enter ∷ []) in') [
      | inl h ↦ inl h
      | inr (inl e) ↦ inr (subst (IsSent w entry_world) (sym e) tt)
      | inr (inr none) ↦ absurd none
    ]

    pub enter_change : IsChange w entry_world
    enter_change = record { clock = length_push w.events e; grows = enter_grows; ops = λ o in'. Kept (kept_op o in'); sent = enter_sent }

    kept_node : (p : ℕ) (n : NodeState) → fin.get w.nodes p ≡ Some n → fin.get entry_world.nodes p ≡ Some n
    kept_node p n is =
        node_next w e q (entered_outcome c q) (λ (o : Option NodeState). o ≡ Some n) p
        (λ here. let k : None ≡ Some n = sym absent ∙ ap (fin.get w.nodes) (sym here) ∙ is in absurd (cc)) (λ _. is)

    pub enter_linked : IsLinked entry_world
    enter_linked = record {
      named = λ id n is. node_next w e q (entered_outcome c q) (λ (o : Option NodeState). o ≡ Some n → n.id ≡ id) id
          (λ here e. let same : entering c q ≡ n = cc in sym (ap (λ (y : NodeState). y.id) same) ∙ sym here)
          (λ there e. linked.named id n e) is;
      owned = λ o in'. let h = linked.owned o (kept_op o in') in record { node = h.node; at = kept_node o.node h.node h.at; tag = h.tag; session = h.session };
      known = λ m in' p t about. elim (among_either m w.sent (message_from q Enter ∷ []) in') [
        | inl h ↦ let k = linked.known m h p t about in (k.0, kept_node p k.0 k.1, k.2)
        | inr (inl e) ↦ absurd (subst (λ (y : Message). IsAbout y p t) e about)
        | inr (inr none) ↦ absurd none
      ];
    }
