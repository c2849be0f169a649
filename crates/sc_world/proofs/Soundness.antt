-- Each change keeps what is sound.
use Rattle.std.proofs.Common.{◌≡◌, ℕ, ◌<◌, false, ◌==◌, Some, None, refl, sym, ap, ◌∙◌, subst, arith, ◌⊎◌, inl, inr}
use Rattle.std.proofs.lemmas.Bool.{eqb-true, or_cases}
use Rattle.std.specs.Ordering.{nat_cmp}
use Rattle.std.specs.FinSet as set
use Rattle.sc_view.specs.Views.{ViewMap, number_at, IsBelow}
use Rattle.sc_members.specs.Ids.{Ids, Has}
use Rattle.sc_msg.specs.declared.message.Message.{Message}
use Rattle.sc_msg.specs.declared.message.Body.TheVariants.{Store, StoreAck, CollectQuery, CollectReply}
use Rattle.sc_msg.specs.declared.message.CollectReply.{CollectReply as ReplyFields}
use Rattle.sc_msg.specs.declared.message.Store.{Store as StoreFields}
use Rattle.sc_msg.specs.declared.message.StoreAck.{StoreAck as AckFields}
use Rattle.sc_node.specs.Sessions.{stored, repliers, ackers}
use Rattle.sc_node.specs.Nodes.{message_from}
use Rattle.sc_world.specs.declared.op.Op.{Op}
use Rattle.sc_world.specs.State.{WorldState}
use Rattle.sc_world.specs.Worlds.{clock}
use Rattle.sc_world.specs.Records.{Among, ack_of, reply_of}
use Rattle.sc_world.proofs.Changes.{view_at, IsAbout, IsReplied, OpFrom, Kept, Begun, Acknowledged}
use Rattle.sc_world.proofs.Changes.{Replied, IsChange, KnownBy, IsSound, HasNumber, MeetsEarlier}
use Rattle.sc_world.proofs.Finite.{contains-insert}
use Rattle.sc_view.proofs.ViewLemmas.{below_trans}

pub nobody : (s : Ids) (q : ℕ) → s ≡ set.empty → Has s q → ⊥
nobody s q e h = let no : set.contains s q ≡ false = ap (λ x. set.contains x q) e ∙ set.contains-empty nat_cmp q in cc

-- who is counted after one more
pub counted : (s s' : Ids) (from q : ℕ) → s' ≡ set.insert s from → Has s' q → (q ≡ from) ⊎ Has s q
counted s s' from q e h =
    elim (or_cases (q == from) (set.contains s q) (sym (contains-insert s from q) ∙ sym (ap (λ x. set.contains x q) e) ∙ h)) [
      | inl is ↦ inl (eqb-true q from is)
      | inr is ↦ inr is
    ]

below_at : (u v w : ViewMap) → v ≡ w → IsBelow u v → IsBelow u w
below_at u v w e h = subst (λ (x : ViewMap). IsBelow u x) e h

-- an operation that ended before this event is as it was
settled : (w w' : WorldState) (o : Op) (e : ℕ) → OpFrom w w' o → o.end ≡ Some e → e < clock w → Among o w.ops
settled w w' o e (Kept h) is lt = h
settled w w' o e (Begun b) is lt = let no : o.end ≡ None = b.end in absurd (cc)
settled w w' o e (Acknowledged o0 v q a m r) is lt =
    elim r.ends [
      | inl none ↦ absurd (cc)
      | inr at ↦ let eq : e ≡ clock w = cc in absurd (omega arith)
    ]
settled w w' o e (Replied o0 v q a m r) is lt = let no : o.end ≡ None = r.stays in absurd (cc)

-- what q had acknowledged before c began stays as it is
known_kept : (w w' : WorldState) (x : IsChange w w') (s : IsSound w) (c c' : Op) (q : ℕ) (v : ViewMap) → c'.begin ≡ c.begin → Among c w.ops
    → KnownBy w c q v → KnownBy w' c' q v
known_kept w w' x s c c' q v same in_ops known o u in' before held acked =
    let early : before.0 < c.begin = omega (arith, before.2, same) in
    let lt : before.0 < clock w = omega (arith, early, s.began c in_ops) in
    known o u (settled w w' o before.0 (x.ops o in') before.1 lt) (before.0, before.1, early) held acked

known_above : (w : WorldState) (c : Op) (q : ℕ) (u v : ViewMap) → IsBelow u v → KnownBy w c q u → KnownBy w c q v
known_above w c q u v le known o x in' before held acked = below_trans x u v (known o x in' before held acked) le

module _ (w w' : WorldState) (x : IsChange w w') (s : IsSound w) where
  began' : (o : Op) → Among o w'.ops → OpFrom w w' o → o.begin < clock w'
  began' o in' (Kept h) = omega (arith, x.clock, s.began o h)
  began' o in' (Begun b) = omega (arith, x.clock, b.begin)
  began' o in' (Acknowledged o0 v q a m r) = omega (arith, x.clock, r.same.begin, s.began o0 a)
  began' o in' (Replied o0 v q a m r) = omega (arith, x.clock, r.same.begin, s.began o0 a)

  grown : (v : ViewMap) (q : ℕ) → IsBelow v (view_at w q) → IsBelow v (view_at w' q)
  grown v q h = below_trans v _ _ h (x.grows q)

  -- whoever's acknowledgement was sent has the view
  ack_has : (q : ℕ) (o : Op) (v : ViewMap) → Among o w.ops → stored o.session ≡ Some v → Among (message_from q (StoreAck (ack_of o))) w.sent
      → IsBelow v (view_at w q)
  ack_has q o v in_ops held sent =
      let h = s.acks q (ack_of o) sent o in_ops refl refl in
      let eq : h.0 ≡ v = cc in
      subst (λ (y : ViewMap). IsBelow y (view_at w q)) eq h.2

  acked' : (o : Op) (v : ViewMap) (q : ℕ) → OpFrom w w' o → stored o.session ≡ Some v → Has (ackers o.session) q → IsBelow v (view_at w' q)
  acked' o v q (Kept h) held c = grown v q (s.acked o v q h held c)
  acked' o v q (Begun b) held c = absurd (nobody _ q b.ackers c)
  acked' o v q (Acknowledged o0 u from a m r) held c =
      let same : u ≡ v = cc in
      let was : stored o0.session ≡ Some v = cc in
      grown v q (elim (counted _ _ from q r.ackers c) [
        | inl is ↦ ack_has q o0 v a was (subst (λ (n : ℕ). Among (message_from n (StoreAck (ack_of o0))) w.sent) (sym is) m)
        | inr is ↦ s.acked o0 v q a was is
      ])
  acked' o v q (Replied o0 u from a m r) held c =
      elim r.is [
        | inl none ↦ absurd (cc)
        | inr now ↦ absurd (nobody _ q now.1 c)
      ]

  -- an operation that was there before, perhaps in an earlier state
  pub record Origin (c : Op) : Type 0 where
    pub op : Op
    pub was : Among op w.ops
    pub node : c.node ≡ op.node
    pub tag : c.tag ≡ op.tag
    pub begin : c.begin ≡ op.begin

  -- an operation to which a message belongs has begun
  origin : (c : Op) (m : Message) → Among m w.sent → IsAbout m c.node c.tag → OpFrom w w' c → Origin c
  origin c m sent about (Kept h) = record { op = c; was = h; node = refl; tag = refl; begin = refl }
  origin c m sent about (Begun b) = absurd (b.fresh m sent about)
  origin c m sent about (Acknowledged o v q a k r) = record { op = o; was = a; node = r.same.node; tag = r.same.tag; begin = r.same.begin }
  origin c m sent about (Replied o v q a k r) = record { op = o; was = a; node = r.same.node; tag = r.same.tag; begin = r.same.begin }

  store_old : (p : ℕ) (m : StoreFields) → Among (message_from p (Store m)) w.sent → (o : Op) → o.node ≡ p → o.tag ≡ m.tag → OpFrom w w' o
      → stored o.session ≡ Some m.view
  store_old p m sent o np tt' (Kept h) = s.stores p m sent o h np tt'
  store_old p m sent o np tt' (Begun b) = absurd (b.fresh (message_from p (Store m)) sent (sym np, sym tt'))
  store_old p m sent o np tt' (Acknowledged o0 u q a k r) =
      let was : stored o0.session ≡ Some m.view = s.stores p m sent o0 a (sym r.same.node ∙ np) (sym r.same.tag ∙ tt') in cc
  store_old p m sent o np tt' (Replied o0 u q a k r) =
      let was : stored o0.session ≡ Some m.view = s.stores p m sent o0 a (sym r.same.node ∙ np) (sym r.same.tag ∙ tt') in absurd (cc)

  stores' : (p : ℕ) (m : StoreFields) → Among (message_from p (Store m)) w'.sent → (o : Op) → Among o w'.ops → o.node ≡ p → o.tag ≡ m.tag
      → stored o.session ≡ Some m.view
  stores' p m sent o in' np tt' =
      elim (x.sent (message_from p (Store m)) sent) [
        | inl old ↦ store_old p m old o np tt' (x.ops o in')
        | inr new ↦ new o in' np tt'
      ]

  ack_old : (q : ℕ) (a : AckFields) → Among (message_from q (StoreAck a)) w.sent → (o : Op) → o.node ≡ a.to → o.tag ≡ a.tag → OpFrom w w' o
      → (v : ViewMap) × (stored o.session ≡ Some v) × IsBelow v (view_at w' q)
  ack_old q a sent o np tt' (Kept h) = let k = s.acks q a sent o h np tt' in (k.0, k.1, grown k.0 q k.2)
  ack_old q a sent o np tt' (Begun b) = absurd (b.fresh (message_from q (StoreAck a)) sent (sym np, sym tt'))
  ack_old q a sent o np tt' (Acknowledged o0 u f was m r) =
      let k = s.acks q a sent o0 was (sym r.same.node ∙ np) (sym r.same.tag ∙ tt') in (k.0, cc, grown k.0 q k.2)
  ack_old q a sent o np tt' (Replied o0 u f was m r) = let k = s.acks q a sent o0 was (sym r.same.node ∙ np) (sym r.same.tag ∙ tt') in absurd (cc)

  acks' : (q : ℕ) (a : AckFields) → Among (message_from q (StoreAck a)) w'.sent → (o : Op) → Among o w'.ops → o.node ≡ a.to → o.tag ≡ a.tag
      → (v : ViewMap) × (stored o.session ≡ Some v) × IsBelow v (view_at w' q)
  acks' q a sent o in' np tt' =
      elim (x.sent (message_from q (StoreAck a)) sent) [
        | inl old ↦ ack_old q a old o np tt' (x.ops o in')
        | inr new ↦ (new.0.view, store_old a.to new.0 new.1 o np (tt' ∙ sym new.2) (x.ops o in'), new.3)
      ]

  -- what q had acknowledged before c began is in q's view
  known_here : (c : Op) (q : ℕ) → KnownBy w c q (view_at w q)
  known_here c q o v in' before held acked = s.acked o v q in' held acked

  replies' : (q : ℕ) (r : ReplyFields) → Among (message_from q (CollectReply r)) w'.sent → (c : Op) → Among c w'.ops → c.node ≡ r.to → c.tag ≡ r.tag
      → KnownBy w' c q r.view
  replies' q r sent c in' np tt' =
      elim (x.sent (message_from q (CollectReply r)) sent) [
        | inl old ↦
            let k = origin c (message_from q (CollectReply r)) old (sym np, sym tt') (x.ops c in') in
            known_kept w w' x s k.op c q r.view k.begin k.was (s.replies q r old k.op k.was (sym k.node ∙ np) (sym k.tag ∙ tt'))
        | inr new ↦
            let k = origin c (message_from r.to (CollectQuery r.tag)) new.0 (sym np, sym tt') (x.ops c in') in
            known_kept w w' x s k.op c q r.view k.begin k.was (known_above w k.op q (view_at w q) r.view new.1 (known_here k.op q))
      ]

  -- whoever's reply is counted now, or was before
  reply_known : (c c' : Op) (v : ViewMap) (from q : ℕ) → Among c w.ops → Among (message_from from (CollectReply (reply_of c v))) w.sent
      → IsReplied c c' v (view_at w' c'.node) from → Has (repliers c'.session) q → KnownBy w' c' q (view_at w' c'.node)
  reply_known c c' v from q in_ops sent r h =
      known_kept w w' x s c c' q (view_at w' c'.node) r.same.begin in_ops (elim (counted _ _ from q r.repliers h) [
        | inl is ↦
            known_above w c q v (view_at w' c'.node) r.learns
            (subst (λ (n : ℕ). KnownBy w c n v) (sym is) (s.replies from (reply_of c v) sent c in_ops refl refl))
        | inr is ↦
            known_above w c q (view_at w c.node) (view_at w' c'.node)
            (below_at _ _ _ (ap (view_at w') (sym r.same.node)) (x.grows c.node))
            (s.gathering c q in_ops r.was is)
      ])

  gathering' : (c : Op) (q : ℕ) → OpFrom w w' c → stored c.session ≡ None → Has (repliers c.session) q → KnownBy w' c q (view_at w' c.node)
  gathering' c q (Kept h) held k =
      known_kept w w' x s c c q (view_at w' c.node) refl h
      (known_above w c q (view_at w c.node) (view_at w' c.node) (x.grows c.node) (s.gathering c q h held k))
  gathering' c q (Begun b) held k = absurd (nobody _ q b.repliers k)
  gathering' c q (Acknowledged o0 v f a m r) held k = absurd (cc)
  gathering' c q (Replied o0 v f a m r) held k = reply_known o0 c v f q a m r k

  gathered' : (c : Op) (v : ViewMap) (q : ℕ) → OpFrom w w' c → stored c.session ≡ Some v → Has (repliers c.session) q → KnownBy w' c q v
  gathered' c v q (Kept h) held k = known_kept w w' x s c c q v refl h (s.gathered c v q h held k)
  gathered' c v q (Begun b) held k = absurd (nobody _ q b.repliers k)
  gathered' c v q (Acknowledged o0 u f a m r) held k =
      let was : stored o0.session ≡ Some v = cc in
      known_kept w w' x s o0 c q v r.same.begin a (s.gathered o0 v q a was (sym (ap (λ y. set.contains y q) r.repliers) ∙ k))
  gathered' c v q (Replied o0 u f a m r) held k =
      elim r.is [
        | inl none ↦ absurd (cc)
        | inr now ↦
            let same : view_at w' c.node ≡ v = cc in
            subst (λ (y : ViewMap). KnownBy w' c q y) same (reply_known o0 c u f q a m r k)
      ]

  numbers' : (o : Op) → OpFrom w w' o → HasNumber o
  numbers' o (Kept h) = s.numbers o h
  numbers' o (Begun b) = b.number
  numbers' o (Acknowledged o0 u f a m r) = λ e is.
      let k = s.numbers o0 a e (sym r.same.kind ∙ is) in
      (k.0, cc, omega (arith, k.2, ap (number_at k.0) r.same.node))
  numbers' o (Replied o0 u f a m r) = λ e is. let k = s.numbers o0 a e (sym r.same.kind ∙ is) in absurd (cc)

  -- the invariants outlast every change
  pub sound_after : IsSound w'
  sound_after = record {
    numbers = λ o in'. numbers' o (x.ops o in');
    began = λ o in'. began' o in' (x.ops o in');
    acked = λ o v q in'. acked' o v q (x.ops o in');
    stores = stores';
    acks = acks';
    replies = replies';
    gathering = λ c q in'. gathering' c q (x.ops c in');
    gathered = λ c v q in'. gathered' c v q (x.ops c in');
  }

-- what is sound is regular
pub regular : (w : WorldState) → IsSound w → MeetsEarlier w
regular w s = record {
  stores = λ o c e v q in_o in_c is before held acked met.
      let k = s.numbers o in_o e is in
      omega (arith, k.2, (s.gathered c v q in_c held met o k.0 in_o before k.1 acked).at o.node);
  collects = λ b c u v q in_b in_c before was held acked met. s.gathered c v q in_c held met b u in_b before was acked;
}
