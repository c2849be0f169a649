-- The record of an operation after an answer to it.
use Rattle.std.proofs.Common.{◌≡◌, ℕ, ◌<◌, Bool, true, false, cond, Option, Some, None, refl, sym, ap, ◌∙◌, subst, arith, inl, inr, slice_get}
use Rattle.std.specs.FinMap as fin
use Rattle.sc_view.specs.Views.{ViewMap}
use Rattle.sc_msg.specs.declared.message.Message.{Message}
use Rattle.sc_msg.specs.declared.message.Body.TheVariants.{StoreAck, CollectReply}
use Rattle.sc_operations.specs.declared.session.OperationKind.{OperationKind}
use Rattle.sc_operations.specs.declared.session.Phase.{Phase}
use Rattle.sc_operations.specs.declared.session.StoreBack.{StoreBack}
use Rattle.sc_operations.specs.declared.session.Session.{Session}
use Rattle.sc_operations.specs.declared.session.Session.TheVariants as session
use Rattle.sc_operations.specs.declared.progress.Advance.TheVariants as advance
use Rattle.sc_operations.specs.declared.progress.Progress.{Progress}
use Rattle.sc_node.specs.Sessions.{kind_of, back_of, open_phase, counted, apply, count_sender, is_reached}
use Rattle.sc_node.specs.State.{NodeState}
use Rattle.sc_node.specs.Nodes.{message_from, beta_threshold}
use Rattle.sc_world.specs.declared.event.WorldEvent.{WorldEvent}
use Rattle.sc_world.specs.declared.event.WorldEvent.TheVariants as event
use Rattle.sc_world.specs.declared.op.Op.{Op}
use Rattle.sc_world.specs.State.{WorldState}
use Rattle.sc_world.specs.Worlds.{moved, clock, Outcome, WasBefore, IsHistory}
use Rattle.sc_world.specs.Records.{Among, Answers, IsAck, IsReply, IsDelivered, IsPhase, HasCome, IsRunning, beginning_of, IsRecord}
use Rattle.sc_world.proofs.Links.{IsLinked, site_of, IsTransition, IsAckMove, IsReplyMove, IsMove, ack_is, reply_is}
use Rattle.sc_world.proofs.Steps.{is_open}
use Rattle.sc_world.proofs.Histories.{IsNext, was_now}
use Rattle.sc_world.proofs.Recording.{phase_kept, turn_before, record_kept, counted_phase, new_measured, new_open, event_new, sent_kept, moves_to, moves_as}
use Rattle.sc_world.proofs.Telling.{kind_kept}

module _ (w : WorldState) (e : WorldEvent) (w' : WorldState) (k : IsNext w e w') (o : Op) (lt : o.begin < clock w) (running : o.end ≡ None) where
  -- a phase of the operation in which one more acknowledgement is counted
  counts : (since : ℕ) (p : Phase) (from : ℕ) → since < clock w → IsPhase w (IsAck o) o.node since p o.end → IsDelivered w' (IsAck o) o.node (clock w) from
      → (c : Bool) → is_reached (count_sender p from) ≡ c → IsPhase w' (IsAck o) o.node since (count_sender p from) (cond c (Some (clock w)) None)
  counts since p from before h = counted_phase w e w' k (IsAck o) o.node since p from before (subst (IsPhase w (IsAck o) o.node since p) running h)

  acked_end : (c : Bool) (s : Session) (b : StoreBack) (from : ℕ) → back_of s ≡ Some b → is_reached (count_sender (open_phase s) from) ≡ c
      → IsDelivered w' (IsAck o) o.node (clock w) from → HasCome w o s
      → HasCome w' (record { node = o.node; tag = o.tag; begin = o.begin; end = cond c (Some (clock w)) None; session = counted s from }) (counted s from)
  acked_end c (session.Store entry x) b from stores is d phase = counts o.begin x.phase from lt phase d c is
  acked_end c (session.Querying p) b from stores is d h = absurd (cc)
  acked_end c (session.StoringBack p x) b from stores is d h = (
    h.0,
    phase_kept w e w' k (IsReply o) o.node o.begin p (Some h.0) (omega (arith, lt)) h.1,
    counts h.0 x.phase from (turn_before w e w' k (IsReply o) o.node o.begin h.0 p h.1) h.2 d c is,
  )

  acked_running : (c : Bool) (s : Session) (b : StoreBack) (from : ℕ) → back_of s ≡ Some b → is_reached (count_sender (open_phase s) from) ≡ c
      → IsDelivered w' (IsAck o) o.node (clock w) from → HasCome w o s → IsRunning w' (moves_to (clock w) o (cond c advance.Ended advance.Counted) from s)
  acked_running true s b from stores is d h = acked_end true s b from stores is d h
  acked_running false s b from stores is d h = acked_end false s b from stores is d h

  replied_running : (n : NodeState) → WasBefore w (clock w) w → fin.get w.nodes o.node ≡ Some n → (c : Bool) (p : Phase) (from : ℕ) (v : ViewMap)
      → is_reached (count_sender p from) ≡ c → IsDelivered w' (IsReply o) o.node (clock w) from → HasCome w o (session.Querying p)
      → IsRunning w' (moves_to (clock w) o (cond c (advance.Turned (beta_threshold n) v) advance.Counted) from (session.Querying p))
  replied_running n was at false p from v is d h = (refl, counted_phase w e w' k (IsReply o) o.node o.begin p from lt h.1 d false is)
  replied_running n was at true p from v is d h = (
    clock w,
    counted_phase w e w' k (IsReply o) o.node o.begin p from lt h.1 d true is,
    record { measured = new_measured w e w' k o.node n was at; until = new_open w' (IsAck o) o.node (clock w) n },
  )

-- a record after a delivery
module _ (w : WorldState) (number q : ℕ) (w' : WorldState) (k : IsNext w (event.Deliver number q) w') (history : IsHistory w) (n : NodeState)
    (at : fin.get w.nodes q ≡ Some n) (linked : IsLinked w) (m : Message) (sent : slice_get w.sent number ≡ Some m)
    (o : Op) (lt : o.begin < clock w) (r : IsRecord w o) (nq : o.node ≡ q) where
  abbrev place : ℕ
  place = clock w

  at_node : fin.get w.nodes o.node ≡ Some n
  at_node = ap (fin.get w.nodes) nq ∙ at

  name : n.id ≡ o.node
  name = linked.named q n at ∙ sym nq

  delivered_now : (P : Answers) → P m.from m → IsDelivered w' P o.node place m.from
  delivered_now P answer = record {
    number = number;
    message = m;
    event = event_new w (event.Deliver number q) w' k ∙ ap (λ (i : ℕ). let x : Option WorldEvent = Some (event.Deliver number i) in x) (sym nq);
    sent = sent_kept w (event.Deliver number q) w' k number m sent;
    answer = answer;
  }

  -- the record before it moves
  old : IsRecord w' o
  old = record_kept w (event.Deliver number q) w' k o lt r

  record_moved : (p : Progress) → IsRunning w' (moved place p o) → IsRecord w' (moved place p o)
  record_moved p runs =
      let same : kind_of (apply p o.session) ≡ kind_of o.session = kind_kept o.session p.sender p.advance in
      record {
        began = old.began ∙ ap (λ (x : OperationKind). let y : Option WorldEvent = Some (beginning_of o.node x) in y) (sym same);
        tagged = old.tagged;
        numbered = λ x is. old.numbered x (sym same ∙ is);
        runs = runs;
      }

  ack_runs : (p : Progress) → o.tag ≡ p.tag → o.end ≡ None → (a : IsAckMove n m.from m.body p) → o.session ≡ a.session → IsRunning w' (moved place p o)
  ack_runs p tq running a same =
      subst (IsRunning w') (sym (moves_as place p o _ m.from a.session a.advance a.sender same))
      (acked_running w (event.Deliver number q) w' k o lt running _ a.session a.back m.from a.stores refl
      (delivered_now (IsAck o) (ap (message_from m.from) (a.body ∙ ap StoreAck (ack_is o a.ack (a.to ∙ name) (a.tag ∙ sym tq)))))
      (subst (HasCome w o) same r.runs))

  reply_runs : (p : Progress) → o.tag ≡ p.tag → o.end ≡ None → (a : IsReplyMove n m.from m.body p) → o.session ≡ session.Querying a.phase
      → IsRunning w' (moved place p o)
  reply_runs p tq running a same =
      subst (IsRunning w') (sym (moves_as place p o _ m.from (session.Querying a.phase) a.advance a.sender same))
      (replied_running w (event.Deliver number q) w' k o lt running n (was_now w history) at_node _ a.phase m.from _ refl
      (delivered_now (IsReply o) (a.reply.view, ap (message_from m.from) (a.body ∙ ap CollectReply (reply_is o a.reply (a.to ∙ name) (a.tag ∙ sym tq)))))
      (subst (HasCome w o) same r.runs))

  pub moved_record : (r' : Outcome) → IsTransition n r' → Among o w.ops → (p : Progress) → o.tag ≡ p.tag → IsMove n m.from m.body (Some p)
      → IsRecord w' (moved place p o)
  moved_record r' x in' p tq (inl a) =
      let h = is_open (site_of w (event.Deliver number q) q n at linked) r' x o a.session p.tag in' nq tq a.was in
      record_moved p (ack_runs p tq h.0 a h.1)
  moved_record r' x in' p tq (inr a) =
      let h = is_open (site_of w (event.Deliver number q) q n at linked) r' x o (session.Querying a.phase) p.tag in' nq tq a.was in
      record_moved p (reply_runs p tq h.0 a h.1)
