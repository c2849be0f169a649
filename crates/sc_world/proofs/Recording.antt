-- The records of operations stay true as events come.
use Rattle.std.proofs.Common.{◌≡◌, ℕ, ◌+◌, ◌≤◌, ◌<◌, Bool, true, false, cond, nat_le, List, [], ◌∷◌, length, take}
use Rattle.std.proofs.Common.{Option, Some, None, refl, sym, ap, ◌∙◌, subst, arith, inl, inr, slice_get}
use Rattle.std.proofs.lemmas.Bool.Decides.{nat_tests}
use Rattle.std.proofs.lemmas.List.{take-append-le}
use Rattle.std.proofs.lemmas.Option.{slice_get_within}
use Rattle.std.specs.Ordering.{nat_cmp}
use Rattle.std.specs.FinMap as fin
use Rattle.std.specs.FinSet as set
use Rattle.std.proofs.lemmas.List.{length_push}
use Rattle.forms.proofs.Appended.{slice_get_front, slice_get_last}
use Rattle.sc_members.specs.Ids.{Has}
use Rattle.sc_msg.specs.declared.message.Message.{Message}
use Rattle.sc_operations.specs.declared.session.Phase.{Phase}
use Rattle.sc_operations.specs.declared.session.Session.{Session}
use Rattle.sc_operations.specs.declared.session.Session.TheVariants as session
use Rattle.sc_operations.specs.declared.progress.Advance.{Advance}
use Rattle.sc_operations.specs.declared.progress.Progress.{Progress}
use Rattle.sc_node.specs.Sessions.{new_phase, count_sender, is_reached, advanced_by}
use Rattle.sc_node.specs.State.{NodeState}
use Rattle.sc_node.specs.Nodes.{beta_threshold}
use Rattle.sc_world.specs.declared.event.WorldEvent.{WorldEvent}
use Rattle.sc_world.specs.declared.op.Op.{Op}
use Rattle.sc_world.specs.State.{WorldState}
use Rattle.sc_world.specs.Worlds.{moved, clock, end_at, WasBefore}
use Rattle.sc_world.specs.Records.{Answers, IsAck, IsReply, IsDelivered, IsAnswered, IsOpen, IsMeasured}
use Rattle.sc_world.specs.Records.{IsUntil, IsPhase, operations_of, stores_of, HasCome, IsRecord}
use Rattle.sc_members.proofs.Sets.{len_insert}
use Rattle.sc_world.proofs.Soundness.{counted}
use Rattle.sc_world.proofs.Histories.{IsNext, before_next}

reached_at : (threshold count : ℕ) → nat_le threshold count ≡ true → threshold ≤ count
reached_at threshold count h = grind (arith, nat_tests)

missed_at : (threshold count : ℕ) → nat_le threshold count ≡ false → count < threshold
missed_at threshold count h = grind (arith, nat_tests)

-- what is said of a world stays so
module _ (w : WorldState) (e : WorldEvent) (w' : WorldState) (k : IsNext w e w') where
  pub clock_is : clock w' ≡ clock w + 1
  clock_is = ap length k.events ∙ length_push w.events e

  pub event_kept : (place : ℕ) (x : WorldEvent) → slice_get w.events place ≡ Some x → slice_get w'.events place ≡ Some x
  event_kept place x h = ap (λ es. slice_get es place) k.events ∙ slice_get_front w.events (e ∷ []) place x h

  pub event_new : slice_get w'.events (clock w) ≡ Some e
  event_new = ap (λ es. slice_get es (clock w)) k.events ∙ slice_get_last w.events e

  pub sent_kept : (number : ℕ) (m : Message) → slice_get w.sent number ≡ Some m → slice_get w'.sent number ≡ Some m
  sent_kept number m h = ap (λ ms. slice_get ms number) k.sent ∙ slice_get_front w.sent k.outs number m h

  -- the events before a place that was reached
  events_before : (place : ℕ) → place ≤ clock w → take place w.events ≡ take place w'.events
  events_before place le = sym (ap (take place) k.events ∙ take-append-le place w.events (e ∷ []) le)

  delivered_kept : (P : Answers) (node place from : ℕ) → IsDelivered w P node place from → IsDelivered w' P node place from
  delivered_kept P node place from d =
      record { number = d.number; message = d.message; event = event_kept place _ d.event; sent = sent_kept d.number d.message d.sent; answer = d.answer }

  answered_kept : (P : Answers) (node since until until' from : ℕ) → until ≤ until' → IsAnswered w P node since until from
      → IsAnswered w' P node since until' from
  answered_kept P node since until until' from le a =
      record { place = a.place; after = a.after; before = omega (arith, a.before, le); delivered = delivered_kept P node a.place from a.delivered }

  until_kept : (P : Answers) (node since : ℕ) (p : Phase) (end : Option ℕ) → IsUntil w P node since p end → IsUntil w' P node since p end
  until_kept P node since p None u =
      record { few = u.few; answered = λ from h. answered_kept P node since (clock w) (clock w') from (omega (arith, clock_is)) (u.answered from h) }
  until_kept P node since p (Some end) u = record {
    later = u.later;
    others = u.others;
    last = u.last;
    full = u.full;
    answered = λ from h. answered_kept P node since end end from (omega arith) (u.answered from h);
    finish = delivered_kept P node end u.last u.finish;
  }

  measured_kept : (node since : ℕ) (p : Phase) → since ≤ clock w → IsMeasured w node since p → IsMeasured w' node since p
  measured_kept node since p le m =
      record { before = m.before; was = before_next w e w' since m.before k le m.was; state = m.state; at = m.at; threshold = m.threshold }

  pub phase_kept : (P : Answers) (node since : ℕ) (p : Phase) (end : Option ℕ) → since ≤ clock w → IsPhase w P node since p end → IsPhase w' P node since p end
  phase_kept P node since p end le h = record { measured = measured_kept node since p le h.measured; until = until_kept P node since p end h.until }

  pub turn_before : (P : Answers) (node since turn : ℕ) (p : Phase) → IsPhase w P node since p (Some turn) → turn < clock w
  turn_before P node since turn p h = slice_get_within w.events turn _ h.until.finish.event

  come_kept : (o : Op) (s : Session) → o.begin < clock w → HasCome w o s → HasCome w' o s
  come_kept o (session.Store e b) lt phase = phase_kept (IsAck o) o.node o.begin b.phase o.end (omega (arith, lt)) phase
  come_kept o (session.Querying p) lt h = (h.0, phase_kept (IsReply o) o.node o.begin p None (omega (arith, lt)) h.1)
  come_kept o (session.StoringBack p b) lt h = (
    h.0,
    phase_kept (IsReply o) o.node o.begin p (Some h.0) (omega (arith, lt)) h.1,
    phase_kept (IsAck o) o.node h.0 b.phase o.end (omega (arith, turn_before (IsReply o) o.node o.begin h.0 p h.1)) h.2,
  )

  pub record_kept : (o : Op) → o.begin < clock w → IsRecord w o → IsRecord w' o
  record_kept o lt r =
      let same : take o.begin w.events ≡ take o.begin w'.events = events_before o.begin (omega (arith, lt)) in
      record {
        began = event_kept o.begin _ r.began;
        tagged = r.tagged ∙ ap (operations_of o.node) same;
        numbered = λ x is. r.numbered x is ∙ ap (λ (es : List WorldEvent). stores_of o.node es + 1) same;
        runs = come_kept o o.session lt r.runs;
      }

  -- a phase in which one more answer is counted
  module _ (P : Answers) (node since : ℕ) (p : Phase) (from : ℕ) (lt : since < clock w) (h : IsPhase w P node since p None)
      (d : IsDelivered w' P node (clock w) from) where
    counted_measured : IsMeasured w' node since (count_sender p from)
    counted_measured =
        let m : IsMeasured w' node since p = measured_kept node since p (omega (arith, lt)) h.measured in
        record { before = m.before; was = m.was; state = m.state; at = m.at; threshold = m.threshold }

    now_answered : IsAnswered w' P node since (clock w') from
    now_answered = record { place = clock w; after = lt; before = omega (arith, clock_is); delivered = d }

    all_answered : (q : ℕ) → Has (set.insert p.counted from) q → IsAnswered w' P node since (clock w') q
    all_answered q is =
        elim (counted p.counted (set.insert p.counted from) from q refl is) [
          | inl same ↦ subst (IsAnswered w' P node since (clock w')) (sym same) now_answered
          | inr old ↦ answered_kept P node since (clock w) (clock w') q (omega (arith, clock_is)) (h.until.answered q old)
        ]

    pub counted_phase : (c : Bool) → is_reached (count_sender p from) ≡ c → IsPhase w' P node since (count_sender p from) (cond c (Some (clock w)) None)
    counted_phase false is =
        let few = missed_at p.threshold (set.len (set.insert p.counted from)) is in
        record { measured = counted_measured; until = record { few = few; answered = all_answered } }
    counted_phase true is = record {
      measured = counted_measured;
      until = record {
        later = lt;
        others = p.counted;
        last = from;
        full = record {
          counted = refl;
          few = h.until.few;
          reached = omega (arith, (len_insert p.counted from).1, h.until.few, reached_at p.threshold (set.len (set.insert p.counted from)) is);
        };
        answered = λ q is. answered_kept P node since (clock w) (clock w) q (omega arith) (h.until.answered q is);
        finish = d;
      };
    }

  -- a phase that begins
  pub new_measured : (node : ℕ) (n : NodeState) → WasBefore w (clock w) w → fin.get w.nodes node ≡ Some n
      → IsMeasured w' node (clock w) (new_phase (beta_threshold n))
  new_measured node n was at = record { before = w; was = before_next w e w' (clock w) w k (omega arith) was; state = n; at = at; threshold = refl }

pub new_open : (w' : WorldState) (P : Answers) (node since : ℕ) (n : NodeState) → IsOpen w' P node since (new_phase (beta_threshold n))
new_open w' P node since n = record {
  few = let h : set.len (set.empty {R = nat_cmp}) ≡ 0 = set.len-empty nat_cmp in omega (arith, h);
  answered = λ from is. let no : set.contains set.empty from ≡ false = set.contains-empty nat_cmp from in absurd (cc);
}

-- the record of an operation that was this, after an answer
abbrev pub moves_to : ℕ → Op → Advance → ℕ → Session → Op
moves_to place o a from s = record { node = o.node; tag = o.tag; begin = o.begin; end = end_at place a; session = advanced_by from a s }

pub moves_as : (place : ℕ) (p : Progress) (o : Op) (a : Advance) (from : ℕ) (s : Session) → p.advance ≡ a → p.sender ≡ from → o.session ≡ s
    → moved place p o ≡ moves_to place o a from s
moves_as place p o a from s adv sender same = λ i. moves_to place o (adv i) (sender i) (same i)
