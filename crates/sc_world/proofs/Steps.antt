-- What an outcome of one node makes of the world is a change, and keeps the links.
use Rattle.std.proofs.Common.{◌≡◌, ℕ, ◌+◌, ◌<◌, Bool, true, false, cond, ◌==◌, ◌&&◌, List, [], ◌∷◌, map}
use Rattle.std.proofs.Common.{Option, Some, None, is_none, refl, sym, ap, ◌∙◌, subst, arith, ◌⊎◌, inl, inr}
use Rattle.std.proofs.lemmas.Bool.{eqb-true, eq-eqb}
use Rattle.std.proofs.lemmas.List.{length_push}
use Rattle.std.specs.List.{AllByRecursion}
use Rattle.std.specs.FinMap as fin
use Rattle.forms.proofs.Lists.{among_left, among_right, among_either}
use Rattle.sc_view.specs.Views.{ViewMap, IsBelow}
use Rattle.sc_msg.specs.declared.message.Message.{Message}
use Rattle.sc_msg.specs.declared.message.Body.{Body}
use Rattle.sc_msg.specs.declared.message.CollectReply.{CollectReply as ReplyFields}
use Rattle.sc_msg.specs.declared.message.StoreAck.{StoreAck as AckFields}
use Rattle.sc_msg.specs.declared.message.Body.TheVariants.{StoreAck, CollectReply}
use Rattle.sc_operations.specs.declared.session.Session.{Session}
use Rattle.sc_operations.specs.declared.progress.Advance.{Advance}
use Rattle.sc_operations.specs.declared.progress.Advance.TheVariants as advance
use Rattle.sc_operations.specs.declared.progress.Progress.{Progress}
use Rattle.sc_world.specs.declared.act.BegunOp.{BegunOp}
use Rattle.sc_node.specs.Sessions.{stored, apply, ends}
use Rattle.sc_node.specs.State.{NodeState}
use Rattle.sc_node.specs.Nodes.{message_from}
use Rattle.sc_world.specs.declared.event.WorldEvent.{WorldEvent}
use Rattle.sc_world.specs.declared.op.Op.{Op}
use Rattle.sc_world.specs.State.{WorldState}
use Rattle.sc_world.specs.Worlds.{clock, Outcome, end_at, moved, advanced, op_begun, after}
use Rattle.sc_world.specs.Records.{Among}
use Rattle.sc_world.proofs.Changes.{view_of, view_at, IsAbout, OpFrom, Kept, Begun, Acknowledged, Replied, IsSent, IsBodySent, IsChange}
use Rattle.sc_world.proofs.Links.{open_session, HasOwner, IsLinked, Site, new_op, session_moved, session_after, IsBegunAt, IsTransition, AckMakes}
use Rattle.sc_world.proofs.Links.{ReplyMakes, IsAckProgress, IsReplyProgress, IsProgress, IsFresh, IsBodyKnown, ack_is, reply_is}
use Rattle.sc_world.proofs.Finite.{get-insert, get-insert_same}
use Rattle.sc_view.proofs.ViewLemmas.{below_refl}

pub among-map : {X Y : Type 0} (f : X → Y) (y : Y) (xs : List X) → Among y (map f xs) → (x : X) × Among x xs × (y ≡ f x)
among-map f y [] h = absurd h
among-map f y (x ∷ xs) (inl e) = (x, inl refl, e)
among-map f y (x ∷ xs) (inr h) = let k = among-map f y xs h in (k.0, inr k.1, k.2)

pub among-image : {X Y : Type 0} (f : X → Y) (x : X) (xs : List X) → Among x xs → Among (f x) (map f xs)
among-image f x [] h = absurd h
among-image f x (y ∷ xs) (inl e) = inl (ap f e)
among-image f x (y ∷ xs) (inr h) = inr (among-image f x xs h)

module _ (w : WorldState) (e : WorldEvent) (q : ℕ) (r : Outcome) where
  -- what an event leaves of the record of an operation
  pub kept_among : (o : Op) → Among o w.ops → Among (advanced q (clock w) r.progress o) (after w e q r).ops
  kept_among o in' =
      let move : Op → Op = advanced q (clock w) r.progress in
      among_left (move o) (map move w.ops) (op_begun q (clock w) r.begun) (among-image move o w.ops in')

  -- the record of the operation that begins at an event
  pub begun_among : (b : BegunOp) → r.begun ≡ Some b → Among (new_op q (clock w) b) (after w e q r).ops
  begun_among b is =
      among_right (new_op q (clock w) b) (map (advanced q (clock w) r.progress) w.ops) (op_begun q (clock w) r.begun)
      (subst (λ (x : Option BegunOp). Among (new_op q (clock w) b) (op_begun q (clock w) x)) (sym is) (inl refl))

  each_begun : (A : Op → Type 0) (b : Option BegunOp) → r.begun ≡ b → ((y : BegunOp) → r.begun ≡ Some y → A (new_op q (clock w) y)) → (o : Op)
      → Among o (op_begun q (clock w) b) → A o
  each_begun A None is new o in' = absurd in'
  each_begun A (Some y) is new o (inr none) = absurd none
  each_begun A (Some y) is new o (inl e) = subst A (sym e) (new y is)

  -- each operation after an event was there before it, or begins at it
  pub each_after : (A : Op → Type 0) → ((o : Op) → Among o w.ops → A (advanced q (clock w) r.progress o))
      → ((y : BegunOp) → r.begun ≡ Some y → A (new_op q (clock w) y)) → (o : Op) → Among o (after w e q r).ops → A o
  each_after A old new o in' =
      elim (among_either o (map (advanced q (clock w) r.progress) w.ops) (op_begun q (clock w) r.begun) in') [
        | inl h ↦ let k = among-map (advanced q (clock w) r.progress) o w.ops h in subst A (sym k.2) (old k.0 k.1)
        | inr h ↦ each_begun A r.begun refl new o h
      ]

  -- which node is at an id
  node_by : (A : Option NodeState → Type 0) (id : ℕ) (b : Bool) → (id == q) ≡ b → (id ≡ q → A (Some r.node))
      → ((id ≡ q → ⊥) → A (fin.get w.nodes id)) → A (cond b (Some r.node) (fin.get w.nodes id))
  node_by A id true is here there = here (eqb-true id q is)
  node_by A id false is here there = there (λ e. let k : (id == q) ≡ true = eq-eqb id q e in absurd (cc))

  pub node_next : (A : Option NodeState → Type 0) (id : ℕ) → (id ≡ q → A (Some r.node)) → ((id ≡ q → ⊥) → A (fin.get w.nodes id))
      → A (fin.get (after w e q r).nodes id)
  node_next A id here there = subst A (sym (get-insert w.nodes q r.node id)) (node_by A id (id == q) refl here there)

pub each-among : {X : Type 0} (P : X → Type 0) (x : X) (xs : List X) → AllByRecursion P xs → Among x xs → P x
each-among P x [] h k = absurd k
each-among P x (y ∷ xs) h (inl e) = subst P (sym e) h.0
each-among P x (y ∷ xs) h (inr k) = each-among P x xs h.1 k

pub and_left : (a b : Bool) → (a && b) ≡ true → a ≡ true
and_left true b h = refl
and_left false b h = h

pub and_right : (a b : Bool) → (a && b) ≡ true → b ≡ true
and_right true b h = h
and_right false b h = cc

by_test : (b : Bool) (q place : ℕ) (p : Progress) (o : Op) → (o.node == q && o.tag == p.tag) ≡ b → (A : Op → Type 0)
    → (o.node ≡ q → o.tag ≡ p.tag → A (moved place p o)) → ((o.node ≡ q → o.tag ≡ p.tag → ⊥) → A o) → A (cond b (moved place p o) o)
by_test true q place p o is A hit other =
    hit (eqb-true _ _ (and_left (o.node == q) (o.tag == p.tag) is)) (eqb-true _ _ (and_right (o.node == q) (o.tag == p.tag) is))
by_test false q place p o is A hit other =
    other (λ a b. let t : (o.node == q && o.tag == p.tag) ≡ true = ap (λ x. x && (o.tag == p.tag)) (eq-eqb o.node q a) ∙ eq-eqb o.tag p.tag b in absurd (cc))

-- an operation is moved, or left as it is
pub advance_op : (q place : ℕ) (p : Progress) (o : Op) (A : Op → Type 0)
    → (o.node ≡ q → o.tag ≡ p.tag → A (moved place p o)) → ((o.node ≡ q → o.tag ≡ p.tag → ⊥) → A o) → A (advanced q place (Some p) o)
advance_op q place p o A = by_test (o.node == q && o.tag == p.tag) q place p o refl A

open_end : (o : Op) (s : Session) → Some s ≡ open_session o → (o.end ≡ None) × (o.session ≡ s)
open_end o s h = go o.end refl
  where
    go : (e : Option ℕ) → o.end ≡ e → (o.end ≡ None) × (o.session ≡ s)
    go None is = let k : Some s ≡ Some o.session = h ∙ ap (λ (x : Option ℕ). cond (is_none x) (Some o.session) None) is in (is, cc)
    go (Some e) is = let k : Some s ≡ None = h ∙ ap (λ (x : Option ℕ). cond (is_none x) (Some o.session) None) is in absurd (cc)

end_or : (place : ℕ) (a : Advance) → (end_at place a ≡ None) ⊎ (end_at place a ≡ Some place)
end_or place advance.Ended = inr refl
end_or place advance.Counted = inl refl
end_or place (advance.Turned t v) = inl refl

-- what is found at the id of an event is its node
pub the_node : (site : Site) (id : ℕ) (m : NodeState) → id ≡ site.id → fin.get site.world.nodes id ≡ Some m → m ≡ site.node
the_node site id m here is = let e : Some m ≡ Some site.node = sym is ∙ ap (fin.get site.world.nodes) here ∙ site.at in cc

module _ (site : Site) (r : Outcome) (x : IsTransition site.node r) where
  open site use {world as w, event as e, id as q, node as n, at, linked}

  abbrev next : WorldState
  next = after w e q r

  pub clock_next : clock next ≡ clock w + 1
  clock_next = length_push w.events e

  pub view_next : view_at next q ≡ r.node.view
  view_next = ap view_of (get-insert_same w.nodes q r.node)

  view_here : view_at w q ≡ n.view
  view_here = ap view_of at

  grows_next : (id : ℕ) → IsBelow (view_at w id) (view_at next id)
  grows_next id =
      node_next w e q r (λ (o : Option NodeState). IsBelow (view_at w id) (view_of o)) id
      (λ here. subst (λ (v : ViewMap). IsBelow v r.node.view) (sym view_here ∙ ap (view_at w) (sym here)) x.grows) (λ _. below_refl _)

  -- the session of an open operation of this node
  pub is_open : (o : Op) (s : Session) (t : ℕ) → Among o w.ops → o.node ≡ q → o.tag ≡ t → fin.get n.sessions t ≡ Some s → (o.end ≡ None) × (o.session ≡ s)
  is_open o s t in' nq tt' is =
      let h = linked.owned o in' in
      let same : h.node ≡ n = the_node site o.node h.node nq h.at in
      open_end o s (sym is ∙ ap (fin.get n.sessions) (sym tt') ∙ ap (λ (m : NodeState). fin.get m.sessions o.tag) (sym same) ∙ h.session)

  module _ (progress : IsProgress w q n r r.progress) (fresh : IsFresh q r.begun) where
    from_ack : (p : Progress) → IsAckProgress w q n p → (o : Op) → Among o w.ops → o.node ≡ q → o.tag ≡ p.tag → OpFrom w next (moved (clock w) p o)
    from_ack p k o in' nq tt' =
        let f = is_open o k.session p.tag in' nq tt' k.was in
        let m : AckMakes o.session (apply p o.session) p.sender = subst (λ (s : Session). AckMakes s (apply p s) p.sender) (sym f.1) k.makes in
        let was : stored o.session ≡ Some k.view = ap (λ (s : Session). stored s) f.1 ∙ k.held in
        Acknowledged o k.view p.sender in'
        (subst (λ (a : AckFields). Among (message_from p.sender (StoreAck a)) w.sent) (ack_is o k.ack (k.to ∙ sym nq) (k.tag ∙ sym tt')) k.sent)
        (record {
          same = record { node = refl; tag = refl; begin = refl; kind = m.kind; running = f.0 };
          was = was;
          is = m.view ∙ was;
          repliers = m.replied;
          ackers = m.acked;
          ends = end_or (clock w) p.advance;
        })

    from_reply : (p : Progress) → IsReplyProgress w q n r p → (o : Op) → Among o w.ops → o.node ≡ q → o.tag ≡ p.tag → OpFrom w next (moved (clock w) p o)
    from_reply p k o in' nq tt' =
        let f = is_open o k.session p.tag in' nq tt' k.was in
        let m : ReplyMakes o.session (apply p o.session) p.sender r.node.view =
        subst (λ (s : Session). ReplyMakes s (apply p s) p.sender r.node.view) (sym f.1) k.makes in
        let view : view_at next o.node ≡ r.node.view = ap (view_at next) nq ∙ view_next in
        Replied o k.reply.view p.sender in'
        (subst (λ (a : ReplyFields). Among (message_from p.sender (CollectReply a)) w.sent) (reply_is o k.reply (k.to ∙ sym nq) (k.tag ∙ sym tt')) k.sent)
        (record {
          same = record { node = refl; tag = refl; begin = refl; kind = m.kind; running = f.0 };
          was = ap (λ (s : Session). stored s) f.1 ∙ k.held;
          repliers = m.replied;
          learns = subst (λ (v : ViewMap). IsBelow k.reply.view v) (sym view) k.learns;
          is = elim m.view [ inl a ↦ inl a | inr b ↦ inr (b.0 ∙ ap (λ (v : ViewMap). let o : Option ViewMap = Some v in o) (sym view), b.1) ];
          stays = k.stays (clock w);
        })

    from_old : (p : Option Progress) → IsProgress w q n r p → (o : Op) → Among o w.ops → OpFrom w next (advanced q (clock w) p o)
    from_old None k o in' = Kept in'
    from_old (Some p) (inl k) o in' = advance_op q (clock w) p o (OpFrom w next) (from_ack p k o in') (λ _. Kept in')
    from_old (Some p) (inr k) o in' = advance_op q (clock w) p o (OpFrom w next) (from_reply p k o in') (λ _. Kept in')

    from_begun : (b : BegunOp) → r.begun ≡ Some b → OpFrom w next (new_op q (clock w) b)
    from_begun b is =
        let f : IsFresh q (Some b) = subst (IsFresh q) is fresh in
        let t : IsBegunAt n r.node (Some b) = subst (IsBegunAt n r.node) is x.begun in
        Begun (record {
          fresh = λ m sent about.
              let k = linked.known m sent q b.tag about in
              omega (arith, k.2, t.0, ap (λ (y : NodeState). y.operations) (the_node site q k.0 refl k.1));
          begin = refl;
          end = refl;
          repliers = f.replied;
          ackers = f.acked;
          number = f.number;
        })

    pub ops_from : (o : Op) → Among o next.ops → OpFrom w next o
    ops_from = each_after w e q r (OpFrom w next) (from_old r.progress progress) from_begun

    module _ (bodies : List Body) (sends : r.outs ≡ map (message_from q) bodies) (outs : AllByRecursion (IsBodySent w next q) bodies) where
      sent_from : (m : Message) → Among m next.sent → Among m w.sent ⊎ IsSent w next m
      sent_from m in' =
          elim (among_either m w.sent r.outs in') [
            | inl h ↦ inl h
            | inr h ↦
                let k = among-map (message_from q) m bodies (subst (Among m) sends h) in
                inr (subst (IsSent w next) (sym k.2) (each-among (IsBodySent w next q) k.0 bodies outs k.1))
          ]

      pub is_change : IsChange w next
      is_change = record { clock = clock_next; grows = grows_next; ops = ops_from; sent = sent_from }

  -- a session after progress, at the operations of this node
  open_by : (o : Op) (s : Session) (a : Advance)
      → cond (ends a) None (Some s) ≡ open_session (record { node = o.node; tag = o.tag; begin = o.begin; end = end_at (clock w) a; session = s })
  open_by o s advance.Ended = refl
  open_by o s advance.Counted = refl
  open_by o s (advance.Turned t v) = refl

  -- what an operation of this node is after progress, is what the node keeps of it
  record Follows (p : Option Progress) (o o' : Op) : Type 0 where
    node : o'.node ≡ o.node
    tag : o'.tag ≡ o.tag
    session : o.node ≡ q → session_after p o.tag (open_session o) ≡ open_session o'
    elsewhere : (o.node ≡ q → ⊥) → o' ≡ o

  at_tag : (p : Progress) (t : ℕ) (s : Option Session) (b : Bool) → (t == p.tag) ≡ b → t ≡ p.tag → cond b (session_moved p s) s ≡ session_moved p s
  at_tag p t s true is e = refl
  at_tag p t s false is e = let k : (t == p.tag) ≡ true = eq-eqb t p.tag e in absurd (cc)

  off_tag : (p : Progress) (t : ℕ) (s : Option Session) (b : Bool) → (t == p.tag) ≡ b → (t ≡ p.tag → ⊥) → cond b (session_moved p s) s ≡ s
  off_tag p t s true is e = absurd (e (eqb-true t p.tag is))
  off_tag p t s false is e = refl

  -- an operation that moves has not ended
  abbrev IsRunning : Option Progress → Op → Type 0
  IsRunning None o = Unit {0}
  IsRunning (Some p) o = o.node ≡ q → o.tag ≡ p.tag → o.end ≡ None

  follows : (p : Option Progress) (o : Op) → IsRunning p o → Follows p o (advanced q (clock w) p o)
  follows None o running = record { node = refl; tag = refl; session = λ _. refl; elsewhere = λ _. refl }
  follows (Some p) o running =
      advance_op q (clock w) p o (Follows (Some p) o)
      (λ nq tt'. record {
        node = refl;
        tag = refl;
        session = λ _.
            at_tag p o.tag (open_session o) (o.tag == p.tag) refl tt'
            ∙ ap (session_moved p) (ap (λ (x : Option ℕ). cond (is_none x) (Some o.session) None) (running nq tt'))
            ∙ open_by o (apply p o.session) p.advance;
        elsewhere = λ away. absurd (away nq);
      })
      (λ other. record { node = refl; tag = refl; session = λ nq. off_tag p o.tag (open_session o) (o.tag == p.tag) refl (other nq); elsewhere = λ _. refl })

  named_next : (id : ℕ) (m : NodeState) → fin.get next.nodes id ≡ Some m → m.id ≡ id
  named_next id m is =
      node_next w e q r (λ (o : Option NodeState). o ≡ Some m → m.id ≡ id) id
      (λ here e. let same : r.node ≡ m = cc in let name : n.id ≡ q = linked.named q n at in sym (ap (λ (y : NodeState). y.id) same) ∙ x.id ∙ name ∙ sym here)
      (λ there e. linked.named id m e) is

  -- whoever has begun so many operations has begun as many later
  pub known_next : (p t : ℕ) (m : NodeState) → fin.get w.nodes p ≡ Some m → t < m.operations
      → (m' : NodeState) × (fin.get next.nodes p ≡ Some m') × (t < m'.operations)
  known_next p t m is lt =
      node_next w e q r (λ (o : Option NodeState). (m' : NodeState) × (o ≡ Some m') × (t < m'.operations)) p
      (λ here. (r.node, refl, omega (arith, x.more, ap (λ (y : NodeState). y.operations) (the_node site p m here is), lt)))
      (λ there. (m, is, lt))

  module _ (progress : IsProgress w q n r r.progress) where
    running_by : (p : Option Progress) → IsProgress w q n r p → (o : Op) → Among o w.ops → IsRunning p o
    running_by None h o in' = tt
    running_by (Some p) (inl h) o in' = λ nq tt'. (is_open o h.session p.tag in' nq tt' h.was).0
    running_by (Some p) (inr h) o in' = λ nq tt'. (is_open o h.session p.tag in' nq tt' h.was).0

    owned_old : (o : Op) → Among o w.ops → HasOwner next (advanced q (clock w) r.progress o)
    owned_old o in' =
        let h = linked.owned o in' in
        let f = follows r.progress o (running_by r.progress progress o in') in
        node_next w e q r (λ (m : Option NodeState). fin.get next.nodes o.node ≡ m → HasOwner next (advanced q (clock w) r.progress o)) o.node
        (λ here is.
        let same : h.node ≡ n = the_node site o.node h.node here h.at in
        let lt : o.tag < n.operations = omega (arith, h.tag, ap (λ (y : NodeState). y.operations) same) in
        record {
          node = r.node;
          at = ap (fin.get next.nodes) f.node ∙ is;
          tag = omega (arith, lt, f.tag, x.more);
          session =
              ap (fin.get r.node.sessions) f.tag ∙ x.sessions o.tag lt
              ∙ ap (session_after r.progress o.tag) (sym (ap (λ (y : NodeState). fin.get y.sessions o.tag) same) ∙ h.session)
              ∙ f.session here;
        })
        (λ there is. subst (HasOwner next) (sym (f.elsewhere there)) (record { node = h.node; at = is ∙ h.at; tag = h.tag; session = h.session }))
        refl

    owned_begun : (b : BegunOp) → r.begun ≡ Some b → HasOwner next (new_op q (clock w) b)
    owned_begun b is =
        let begun : IsBegunAt n r.node (Some b) = subst (IsBegunAt n r.node) is x.begun in
        record { node = r.node; at = get-insert_same w.nodes q r.node; tag = begun.2; session = begun.1 }

    owned_next : (o : Op) → Among o next.ops → HasOwner next o
    owned_next = each_after w e q r (HasOwner next) owned_old owned_begun

    module _ (bodies : List Body) (sends : r.outs ≡ map (message_from q) bodies) (outs : AllByRecursion (IsBodyKnown next q) bodies) where
      message_known : (m : Message) → Among m next.sent → (p t : ℕ) → IsAbout m p t → (m' : NodeState) × (fin.get next.nodes p ≡ Some m') × (t < m'.operations)
      message_known m in' p t about =
          elim (among_either m w.sent r.outs in') [
            | inl h ↦ let k = linked.known m h p t about in known_next p t k.0 k.1 k.2
            | inr h ↦
                let k = among-map (message_from q) m bodies (subst (Among m) sends h) in
                each-among (IsBodyKnown next q) k.0 bodies outs k.1 p t (subst (λ (y : Message). IsAbout y p t) k.2 about)
          ]

      pub is_linked : IsLinked next
      is_linked = record { named = named_next; owned = owned_next; known = message_known }
