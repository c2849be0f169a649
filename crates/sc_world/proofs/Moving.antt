-- The record that was made ready is the one that moves.
use Rattle.std.proofs.Common.{◌≡◌, ℕ, zero, suc, ◌≤◌, Bool, true, false, cond, ◌==◌, nat_lt, List, [], ◌∷◌, map, length, get_or, Option}
use Rattle.std.proofs.Common.{Some, None, refl, sym, ap, ◌∙◌, subst, arith, inl, inr, slice_get, slice_set, position, Ok}
use Rattle.std.proofs.lemmas.Bool.{eq-eqb, eqb-true, false_from_ne_true}
use Rattle.std.proofs.lemmas.Bool.Decides.{nat_tests}
use Rattle.std.proofs.lemmas.List.Sums.{fails_before_first}
use Rattle.std.proofs.lemmas.List.Quantifiers.{position-Some}
use Rattle.std.proofs.lemmas.Option.{get_or_from_slice_get, slice_get-get_or, slice_get_within}
use Rattle.std.specs.Option.{IfSome}
use Rattle.std.specs.List.{position_or_len}
use Rattle.std.specs.FinMap as fin
use Rattle.std.specs.FinSet as set
use Rattle.sc_msg.specs.declared.message.Message.{Message}
use Rattle.sc_msg.specs.declared.message.Body.{Body}
use Rattle.sc_node.specs.declared.answer.Delivered.{Delivered}
use Rattle.sc_operations.specs.declared.progress.Progress.{Progress}
use Rattle.sc_node.specs.State.{NodeState}
use Rattle.sc_node.specs.Nodes.{progress_of, delivered}
use Rattle.sc_world.specs.declared.act.Act.{Act}
use Rattle.sc_world.specs.declared.act.Act.TheVariants as act
use Rattle.sc_world.specs.declared.act.Report.{Report}
use Rattle.sc_world.specs.declared.counting.Counting.{Counting}
use Rattle.sc_world.specs.declared.op.Op.{Op}
use Rattle.sc_world.specs.State.{WorldState, Past, past_of}
use Rattle.sc_world.specs.Worlds.{clock, Outcome, of_delivered, by_node, moved, live, by_live, live_at, acted, delivers, IsHistory}
use Rattle.sc_world.specs.Records.{Among}
use Rattle.sc_world.specs.Acts.{outcome, answered, answered_at, answered_by, is_op, IsReady, put_moved, progress_in}
use Rattle.sc_world.specs.Ledgers.{IsRight}
use Rattle.sc_world.proofs.Links.{IsAckMove, IsReplyMove, IsMove}
use Rattle.sc_world.proofs.Steps.{and_left, and_right}
use Rattle.sc_world.proofs.Handlers.{moves}
use Rattle.sc_world.proofs.Inverts.{no_refusal, live-some, by_live-ok, stores-ok, collects-ok, leaves-ok, delivers-ok}
use Rattle.sc_world.proofs.EveryHistory.{IsLawful, every_lawful}

-- a record that no other matches
module _ (test : Op → Bool) (f : Op → Op) where
  abbrev change : Op → Op
  change o = cond (test o) (f o) o

  off : (o : Op) → test o ≡ false → o ≡ change o
  off o is = ap (λ b. cond b (f o) o) (sym is)

  on : (o : Op) → test o ≡ true → f o ≡ change o
  on o is = ap (λ b. cond b (f o) o) (sym is)

  pub none_change : (ops : List Op) → ((o : Op) → Among o ops → test o ≡ false) → ops ≡ map change ops
  none_change [] never = refl
  none_change (o ∷ ops) never = λ i. off o (never o (inl refl)) i ∷ none_change ops (λ x in'. never x (inr in')) i

  place_in : (ops : List Op) (o : Op) → Among o ops → (k : ℕ) × (slice_get ops k ≡ Some o)
  place_in [] o in' = absurd in'
  place_in (x ∷ ops) o (inl e) = (zero, ap (λ (y : Op). let z : Option Op = Some y in z) (sym e))
  place_in (x ∷ ops) o (inr in') = let k = place_in ops o in' in (suc k.0, k.1)

  pub one_changes : (ops : List Op) (k : ℕ) (o : Op) → slice_get ops k ≡ Some o → test o ≡ true
      → ((j : ℕ) (x : Op) → slice_get ops j ≡ Some x → test x ≡ true → j ≡ k) → slice_set ops k (f o) ≡ map change ops
  one_changes [] k o at is only = absurd (cc)
  one_changes (x ∷ ops) zero o at is only =
      let same : x ≡ o = cc in
      let rest : ops ≡ map change ops = none_change ops (λ y in'. false_from_ne_true (test y) (λ hit.
      let k = place_in ops y in' in
      let h : suc k.0 ≡ zero = only (suc k.0) y k.1 hit in
      absurd (omega (arith, h)))) in
      λ i. (on o is ∙ ap change (sym same)) i ∷ rest i
  one_changes (x ∷ ops) (suc k) o at is only =
      let head : test x ≡ false = false_from_ne_true (test x) (λ hit. let h : zero ≡ suc k = only zero x refl hit in absurd (omega (arith, h))) in
      λ i. off x head i ∷ one_changes ops k o at is (λ j y at' hit. let h : suc j ≡ suc k = only (suc j) y at' hit in omega (arith, h)) i

  past : (ops : List Op) → position test ops ≡ None → length ops ≤ position_or_len test ops
  past ops none = go (nat_lt (position_or_len test ops) (length ops)) refl none
    where
      go : (b : Bool) → nat_lt (position_or_len test ops) (length ops) ≡ b
          → (let r : Option ℕ = cond b (Some (position_or_len test ops)) None in r) ≡ None → length ops ≤ position_or_len test ops
      go true is h = absurd (cc)
      go false is h = grind (arith, nat_tests)

  -- what is not found is not there
  pub none_found : (ops : List Op) → position test ops ≡ None → (o : Op) → Among o ops → test o ≡ false
  none_found ops none o in' =
      let k = place_in ops o in' in
      ap test (sym (get_or_from_slice_get ops k.0 o o k.1))
      ∙ fails_before_first test ops k.0 o (omega (arith, past ops none, slice_get_within ops k.0 o k.1))

-- what is found is there
pub found_at : (test : Op → Bool) (ops : List Op) (place : Option ℕ) → place ≡ position test ops
    → IfSome place (λ at. (o : Op) × (test o ≡ true) × (slice_get ops at ≡ Some o))
found_at test ops None is = tt
found_at test [] (Some at) is = absurd (cc)
found_at test (d ∷ ops) (Some at) is =
    let h = position-Some test (d ∷ ops) at d (sym is) in
    (get_or (d ∷ ops) at d, h.1, slice_get-get_or (d ∷ ops) at d h.0)

same_map : (ops : List Op) → ops ≡ map (λ o. o) ops
same_map [] = refl
same_map (o ∷ ops) = ap (λ xs. o ∷ xs) (same_map ops)

-- where nothing moves, nothing has to be ready
pub still : (ops : List Op) (id place : ℕ) (p : Option Progress) (c : Option Counting) → p ≡ None → IsRight ops id place p c
still ops id place None c is = record { fits = tt; moves = same_map ops }
still ops id place (Some p) c is = absurd (cc)

module _ (w : WorldState) (l : IsLawful w) (id place : ℕ) (n : NodeState) (at : fin.get w.nodes id ≡ Some n) (from : ℕ) (b : Body) where
  name : n.id ≡ id
  name = l.invariant.linked.named id n at

  own : (id == id) ≡ true
  own = eq-eqb id id refl

  for_tag : (to tag : ℕ) (p : Progress) → to ≡ n.id → tag ≡ p.tag → p.sender ≡ from
      → (let r : Option (ℕ × ℕ) = cond (to == id) (Some (tag, from)) None in r) ≡ Some (p.tag, p.sender)
  for_tag to tag p here tagged sender =
      ap (λ (i : ℕ). let r : Option (ℕ × ℕ) = cond (i == id) (Some (tag, from)) None in r) (here ∙ name)
      ∙ ap (λ (t : Bool). let r : Option (ℕ × ℕ) = cond t (Some (tag, from)) None in r) own
      ∙ ap (λ (t : ℕ). let r : Option (ℕ × ℕ) = Some (t, from) in r) tagged ∙ ap (λ (s : ℕ). let r : Option (ℕ × ℕ) = Some (p.tag, s) in r) (sym sender)

  -- which operation the message is for
  ack_for : (p : Progress) → IsAckMove n from b p → answered id from b ≡ Some (p.tag, p.sender)
  ack_for p k = ap (answered id from) k.body ∙ for_tag k.ack.to k.ack.tag p k.to k.tag k.sender

  reply_for : (p : Progress) → IsReplyMove n from b p → answered id from b ≡ Some (p.tag, p.sender)
  reply_for p k = ap (answered id from) k.body ∙ for_tag k.reply.to k.reply.tag p k.to k.tag k.sender

  for_it : (p : Progress) → IsMove n from b (Some p) → answered id from b ≡ Some (p.tag, p.sender)
  for_it p (inl k) = ack_for p k
  for_it p (inr k) = reply_for p k

  ready_right : (p : Progress) → IsMove n from b (Some p) → (c : Option Counting) → IsReady w.ops id (Some (p.tag, p.sender)) c
      → IsRight w.ops id place (Some p) c
  ready_right p k None h =
      record { fits = tt; moves = none_change (is_op id p.tag) (moved place p) w.ops (none_found (is_op id p.tag) (moved place p) w.ops h) }
  ready_right p k (Some c) h =
      let o = h.0 in
      let hit : is_op id p.tag o ≡ true = h.1 in
      let nq : o.node ≡ id = eqb-true o.node id (and_left (o.node == id) (o.tag == p.tag) hit) in
      let tq : o.tag ≡ p.tag = eqb-true o.tag p.tag (and_right (o.node == id) (o.tag == p.tag) hit) in
      record {
        fits = (o, h.2, h.3);
        moves =
            ap (put_moved w.ops c.at place p) h.2
            ∙ one_changes (is_op id p.tag) (moved place p) w.ops c.at o h.2 hit
            (λ j x at' hit'. l.records.distinct j c.at x o at' h.2
            (eqb-true x.node id (and_left (x.node == id) (x.tag == p.tag) hit') ∙ sym nq)
            (eqb-true x.tag p.tag (and_right (x.node == id) (x.tag == p.tag) hit') ∙ sym tq));
      }

  move_right : (p : Option Progress) → IsMove n from b p → (c : Option Counting) → IsReady w.ops id (answered id from b) c → IsRight w.ops id place p c
  move_right None k c h = still w.ops id place None c refl
  move_right (Some p) k c h = ready_right p k c (subst (λ (a : Option (ℕ × ℕ)). IsReady w.ops id a c) (for_it p k) h)

  -- what a message makes of the node's operations is right
  heard_right : (p : Option Progress) → progress_of n from b ≡ p → (c : Option Counting) → IsReady w.ops id (answered id from b) c
      → IsRight w.ops id place p c
  heard_right p same = move_right p (subst (IsMove n from b) same (moves n from b))

module _ (w : WorldState) (l : IsLawful w) (id place : ℕ) (r : Report) (n' : NodeState) (c : Option Counting) where
  still_by : (n : NodeState) (x : Outcome) → x.progress ≡ None → x ≡ outcome r n' → IsRight w.ops id place (progress_in r.change) c
  still_by n x none is = still w.ops id place (progress_in r.change) c (ap (λ (y : Outcome). y.progress) (sym is) ∙ none)

  deliver_right : (n : NodeState) (m : Option Message) → fin.get w.nodes id ≡ Some n → delivers m n ≡ Ok (outcome r n')
      → IsReady w.ops id (answered_by id m) c → IsRight w.ops id place (progress_in r.change) c
  deliver_right n None at h ready = absurd (no_refusal _ (outcome r n') h)
  deliver_right n (Some m) at h ready =
      heard_right w l id place n at m.from m.body (progress_in r.change) (ap (λ (y : Outcome). y.progress) (delivers-ok m n (outcome r n') h)) c ready

  acted_right : (n : NodeState) (a : Act) → fin.get w.nodes id ≡ Some n → acted w.sent a n ≡ Ok (outcome r n')
      → IsReady w.ops id (answered_at id w.sent a) c → IsRight w.ops id place (progress_in r.change) c
  acted_right n act.Leave at h ready = still_by n _ refl (leaves-ok n (outcome r n') h)
  acted_right n (act.Store value) at h ready = still_by n _ refl (stores-ok value n (outcome r n') h)
  acted_right n act.Collect at h ready = still_by n _ refl (collects-ok n (outcome r n') h)
  acted_right n (act.Deliver number) at h ready = deliver_right n (slice_get w.sent number) at h ready

  -- whatever the act was
  pub right : (a : Act) → by_live (live_at w id) (acted w.sent a) ≡ Ok (outcome r n') → IsReady w.ops id (answered_at id w.sent a) c
      → IsRight w.ops id place (progress_in r.change) c
  right a h ready =
      let k = by_live-ok (live_at w id) (acted w.sent a) (outcome r n') h in
      acted_right k.0 a (live-some (set.contains w.crashed id) (fin.get w.nodes id) k.0 k.1) k.2 ready

-- a node takes a message
pub delivery_right : (w : WorldState) → IsHistory w → (id : ℕ) (n n' : NodeState) (m : Message) (told : Delivered) (c : Option Counting)
    → fin.get w.nodes id ≡ Some n → delivered n m ≡ Ok (told, n')
    → IsReady w.ops id (answered id m.from m.body) c → IsRight w.ops id (clock w) told.progress c
delivery_right w history id n n' m told c at is ready =
    let same = ap (λ (y : Outcome). y.progress) (delivers-ok m n (of_delivered (told, n')) (ap (by_node of_delivered) is)) in
    heard_right w (every_lawful w.config w.founders w.events w history) id (clock w) n at m.from m.body told.progress same c ready

-- what the parts of a world saw is what the world has
module _ (w : WorldState) (history : IsHistory w) (p : Past) (is : p ≡ past_of w) (id : ℕ) (a : Act) (crashed : Bool) (sent : List Message)
    (gone : crashed ≡ set.contains p.crashed id) (all : sent ≡ p.sent) where
  pub seen : by_live (live_at w id) (acted w.sent a) ≡ by_live (live crashed (fin.get w.nodes id)) (acted sent a)
  seen =
      let stopped : crashed ≡ set.contains w.crashed id = gone ∙ ap (λ (x : Past). set.contains x.crashed id) is in
      let read : sent ≡ w.sent = all ∙ ap (λ (x : Past). x.sent) is in
      λ i. by_live (live (sym stopped i) (fin.get w.nodes id)) (acted (sym read i) a)

  pub seen_right : (r : Report) (n : NodeState) (c : Option Counting) → by_live (live crashed (fin.get w.nodes id)) (acted sent a) ≡ Ok (outcome r n)
      → IsReady p.ops id (answered_at id p.sent a) c → IsRight p.ops id (length p.events) (progress_in r.change) c
  seen_right r n c said ready =
      subst (λ (x : Past). IsRight x.ops id (length x.events) (progress_in r.change) c) (sym is)
      (right w (every_lawful w.config w.founders w.events w history) id (clock w) r n c a (seen ∙ said)
      (subst (λ (x : Past). IsReady x.ops id (answered_at id x.sent a) c) is ready))
