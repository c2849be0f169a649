-- An operation whose record ends at an event is told by that event.
use Rattle.std.proofs.Common.{◌≡◌, ℕ, ◌<◌, Bool, true, false, cond, Option, Some, None, refl, sym, ap, ◌∙◌, subst, arith, inl, inr, Ok}
use Rattle.std.proofs.lemmas.Option.{slice_get_within}
use Rattle.std.specs.FinMap as fin
use Rattle.sc_view.specs.Views.{ViewMap, merge}
use Rattle.sc_msg.specs.declared.message.Message.{Message}
use Rattle.sc_msg.specs.declared.message.Body.{Body}
use Rattle.sc_operations.specs.declared.session.Phase.{Phase}
use Rattle.sc_operations.specs.declared.session.StoreBack.{StoreBack}
use Rattle.sc_operations.specs.declared.session.Session.{Session}
use Rattle.sc_operations.specs.declared.session.Session.TheVariants as session
use Rattle.sc_operations.specs.declared.progress.Advance.{Advance}
use Rattle.sc_operations.specs.declared.progress.Advance.TheVariants as advance
use Rattle.sc_operations.specs.declared.progress.Progress.{Progress}
use Rattle.sc_operations.specs.declared.progress.OpResult.TheVariants as op_result
use Rattle.sc_operations.specs.declared.progress.Ended.{Ended}
use Rattle.sc_node.specs.Sessions.{back_of, is_reached, count_sender, ended_with, ended_at, ended_by}
use Rattle.sc_node.specs.State.{NodeState}
use Rattle.sc_node.specs.Nodes.{beta_threshold, progress_of, ended_session}
use Rattle.sc_world.specs.declared.event.WorldEvent.{WorldEvent}
use Rattle.sc_world.specs.declared.event.WorldEvent.TheVariants as event
use Rattle.sc_world.specs.declared.event.WorldStep.{WorldStep}
use Rattle.sc_world.specs.declared.op.Op.{Op}
use Rattle.sc_world.specs.State.{WorldState}
use Rattle.sc_world.specs.Worlds.{clock, node_of, Outcome, told, after, end_at, advanced, stepped}
use Rattle.sc_world.specs.Records.{Among, Answers, IsAck, IsUntil, IsPhase, HasCome, AreRecords}
use Rattle.sc_world.specs.Regular.{EndIsTold}
use Rattle.sc_world.proofs.Links.{IsMove}
use Rattle.sc_world.proofs.Steps.{each_after, advance_op}
use Rattle.sc_world.proofs.Handlers.{heard, store_outcome, collect_outcome, left_outcome, entered_outcome, moves}
use Rattle.sc_world.proofs.Inverts.{OfOutcome, by_event}

-- ---- a record that has ended, ended before now

over_before : (w : WorldState) (P : Answers) (node since end : ℕ) (p : Phase) → IsUntil w P node since p (Some end) → end < clock w
over_before w P node since end p u = slice_get_within w.events end _ u.finish.event

until_before : (w : WorldState) (P : Answers) (node since : ℕ) (p : Phase) (x : Option ℕ) (end : ℕ) → x ≡ Some end → IsPhase w P node since p x → end < clock w
until_before w P node since p x end is h = over_before w P node since end p (subst (IsUntil w P node since p) is h.until)

ended_before : (w : WorldState) (o : Op) (end : ℕ) (s : Session) → HasCome w o s → o.end ≡ Some end → end < clock w
ended_before w o end (session.Store e b) phase ended = until_before w (IsAck o) o.node o.begin b.phase o.end end ended phase
ended_before w o end (session.Querying p) h ended = let k : None ≡ Some end = sym h.0 ∙ ended in absurd (cc)
ended_before w o end (session.StoringBack p b) h ended = until_before w (IsAck o) o.node h.0 b.phase o.end end ended h.2

not_now : (w : WorldState) → AreRecords w → (o : Op) → Among o w.ops → o.end ≡ Some (clock w) → ⊥
not_now w records o in' ended = let lt : clock w < clock w = ended_before w o (clock w) o.session (records.each o in').runs ended in absurd (omega (arith, lt))

-- ---- what a message tells of the operation that it ends

-- the operation of this tag is told of
abbrev Tells : Option Ended → ℕ → Type 0
Tells ended tag = (x : Ended) × (ended ≡ Some x) × (x.tag ≡ tag)

ended_now : (place : ℕ) (a : Advance) → end_at place a ≡ Some place → a ≡ advance.Ended
ended_now place advance.Ended h = refl
ended_now place advance.Counted h = absurd (cc)
ended_now place (advance.Turned t v) h = absurd (cc)

reply_goes_on : (b : Bool) (threshold : ℕ) (view : ViewMap)
    → (let a : Advance = cond b (advance.Turned threshold view) advance.Counted in a) ≡ advance.Ended → ⊥
reply_goes_on true threshold view h = absurd (cc)
reply_goes_on false threshold view h = absurd (cc)

tells_with : (tag : ℕ) (s : Session) (back : StoreBack) → back_of s ≡ Some back → Tells (ended_with tag s) tag
tells_with tag (session.Store e b) back held = (record { tag = tag; what = op_result.Stored }, refl, refl)
tells_with tag (session.Querying p) back held = absurd (cc)
tells_with tag (session.StoringBack p b) back held = (record { tag = tag; what = op_result.Returned b.view }, refl, refl)

tells_by : (n : NodeState) (from : ℕ) (b : Body) (p : Progress) → IsMove n from b (Some p) → p.advance ≡ advance.Ended
    → Tells (ended_by (Some p) (ended_session n.sessions (Some p))) p.tag
tells_by n from b p (inl m) ends =
    subst (λ (a : Advance). Tells (ended_at p.tag a (fin.get n.sessions p.tag)) p.tag) (sym ends)
    (subst (λ (x : Option Session). Tells (ended_at p.tag advance.Ended x) p.tag) (sym m.was) (tells_with p.tag m.session m.back m.stores))
tells_by n from b p (inr m) ends =
    absurd (reply_goes_on (is_reached (count_sender m.phase from)) (beta_threshold n) (merge n.view m.reply.view) (sym m.advance ∙ ends))

-- ---- each event

-- a record that ends is that of this node, and told of
record IsToldOf (q : ℕ) (ended : Option Ended) (o : Op) : Type 0 where
  by : o.node ≡ q
  told : Tells ended o.tag

module _ (w : WorldState) (records : AreRecords w) where
  none_ends : (e : WorldEvent) (a : WorldStep) (w' : WorldState) → w.ops ≡ w'.ops → EndIsTold w e a w'
  none_ends e a w' same = record {
    by = λ o in' ended. absurd (not_now w records o (subst (Among o) (sym same) in') ended);
    told = λ o in' ended. absurd (not_now w records o (subst (Among o) (sym same) in') ended);
  }

  module _ (q : ℕ) where
    -- what becomes of the records that were there
    abbrev AreToldOf : Option Progress → Option Ended → Type 0
    AreToldOf p ended = (o : Op) → Among o w.ops → (advanced q (clock w) p o).end ≡ Some (clock w) → IsToldOf q ended (advanced q (clock w) p o)

    progress_told : (n : NodeState) (from : ℕ) (b : Body) (p : Option Progress) → IsMove n from b p → AreToldOf p (ended_by p (ended_session n.sessions p))
    progress_told n from b None m o in' ended = absurd (not_now w records o in' ended)
    progress_told n from b (Some p) m o in' ended =
        advance_op q (clock w) p o (λ (y : Op). y.end ≡ Some (clock w) → IsToldOf q (ended_by (Some p) (ended_session n.sessions (Some p))) y)
        (λ mine tagged now. let t = tells_by n from b p m (ended_now (clock w) p.advance now) in record { by = mine; told = (t.0, t.1, t.2 ∙ sym tagged) })
        (λ other now. absurd (not_now w records o in' now))
        ended

    none_told : (p : Option Progress) (ended : Option Ended) → p ≡ None → AreToldOf p ended
    none_told p ended none o in' now = absurd (not_now w records o in' (ap (λ (x : Option Progress). (advanced q (clock w) x o).end) (sym none) ∙ now))

    module _ (e : WorldEvent) (own : node_of e ≡ q) (r : Outcome) (old : AreToldOf r.progress r.ended) where
      record_told : (o : Op) → Among o (after w e q r).ops → o.end ≡ Some (clock w) → IsToldOf q r.ended o
      record_told = each_after w e q r (λ o. o.end ≡ Some (clock w) → IsToldOf q r.ended o) old (λ y is now. absurd (cc))

      outcome_told : EndIsTold w e (told w r) (after w e q r)
      outcome_told = record { by = λ o in' ended. (record_told o in' ended).by ∙ sym own; told = λ o in' ended. (record_told o in' ended).told }

    -- an event that moves no operation ends none
    quiet_told : (e : WorldEvent) → node_of e ≡ q → (r : Outcome) → r.progress ≡ None → EndIsTold w e (told w r) (after w e q r)
    quiet_told e own r none = outcome_told e own r (none_told r.progress r.ended none)

    delivered_told : (number : ℕ) (n : NodeState) (m : Message) → OfOutcome (EndIsTold w) w (event.Deliver number q) q (heard n m.from m.body)
    delivered_told number n m =
        outcome_told (event.Deliver number q) refl (heard n m.from m.body)
        (progress_told n m.from m.body (progress_of n m.from m.body) (moves n m.from m.body))

  pub step_told : (e : WorldEvent) (a : WorldStep) (w' : WorldState) → stepped w e ≡ Ok (a, w') → EndIsTold w e a w'
  step_told = by_event w (EndIsTold w) (record {
    entered = λ q at. quiet_told q (event.Enter q) refl (entered_outcome w.config q) refl;
    left = λ q n at. quiet_told q (event.Leave q) refl (left_outcome n) refl;
    crashed = λ q. none_ends (event.Crash q) _ _ refl;
    stored = λ q value n at. quiet_told q (event.Store q value) refl (store_outcome n value) refl;
    collected = λ q n at. quiet_told q (event.Collect q) refl (collect_outcome n) refl;
    delivered = λ number q n m at sent. delivered_told q number n m;
  })
