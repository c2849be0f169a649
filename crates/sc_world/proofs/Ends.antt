-- What an event tells of an operation that ends is in the operation's record.
use Rattle.std.proofs.Common.{◌≡◌, ℕ, [], map, Option, Some, None, refl, sym, ap, ◌∙◌, subst, inl, inr, Ok}
use Rattle.std.proofs.lemmas.Option.{same_Some}
use Rattle.std.specs.Ordering.{nat_cmp}
use Rattle.std.specs.FinMap as fin
use Rattle.forms.proofs.Lists.{among_left}
use Rattle.sc_view.specs.declared.view.Stored.{Stored}
use Rattle.sc_view.specs.Views.{ViewMap}
use Rattle.sc_msg.specs.declared.message.Message.{Message}
use Rattle.sc_msg.specs.declared.message.Body.{Body}
use Rattle.sc_operations.specs.declared.session.OperationKind.TheVariants as kind
use Rattle.sc_operations.specs.declared.session.Phase.{Phase}
use Rattle.sc_operations.specs.declared.session.Session.{Session}
use Rattle.sc_operations.specs.declared.session.Session.TheVariants as session
use Rattle.sc_operations.specs.declared.progress.Advance.{Advance}
use Rattle.sc_operations.specs.declared.progress.Advance.TheVariants as advance
use Rattle.sc_operations.specs.declared.progress.Progress.{Progress}
use Rattle.sc_operations.specs.declared.progress.OpResult.TheVariants as op_result
use Rattle.sc_operations.specs.declared.progress.Ended.{Ended}
use Rattle.sc_node.specs.Sessions.{kind_of, stored, open_phase, with_phase, count_sender, advanced_by, ended_with, ended_at, ended_by}
use Rattle.sc_node.specs.State.{NodeState}
use Rattle.sc_node.specs.Nodes.{progress_of, ended_session}
use Rattle.sc_world.specs.declared.event.WorldEvent.{WorldEvent}
use Rattle.sc_world.specs.declared.event.WorldEvent.TheVariants as event
use Rattle.sc_world.specs.declared.event.WorldStep.{WorldStep}
use Rattle.sc_world.specs.declared.op.Op.{Op}
use Rattle.sc_world.specs.State.{WorldState}
use Rattle.sc_world.specs.Worlds.{clock, Outcome, told, after, end_at, moved, advanced, stepped}
use Rattle.sc_world.specs.Records.{Among}
use Rattle.sc_world.specs.Regular.{HasReturned, HasStored, EndIsRecorded}
use Rattle.sc_world.specs.Operations.{returned_by}
use Rattle.sc_world.proofs.Links.{IsLinked, site_of, IsMove}
use Rattle.sc_world.proofs.Steps.{among-image, advance_op, is_open}
use Rattle.sc_world.proofs.Handlers.{heard, heard_moves, moves}
use Rattle.sc_world.proofs.Telling.{kind_kept}
use Rattle.sc_world.proofs.Tallies.{IsTallied}
use Rattle.sc_world.proofs.Inverts.{by_event}

-- at this delivery an operation ends, and this is told of it
record IsEnding (sessions : fin.FinMap nat_cmp Session) (p : Option Progress) (x : Ended) : Type 0 where
  progress : Progress
  is : p ≡ Some progress
  ends : progress.advance ≡ advance.Ended
  session : Session
  was : fin.get sessions progress.tag ≡ Some session
  says : ended_with progress.tag session ≡ Some x

ends-at : (sessions : fin.FinMap nat_cmp Session) (p : Progress) (x : Ended) (a : Advance) (o : Option Session) → p.advance ≡ a
    → fin.get sessions p.tag ≡ o → ended_at p.tag a o ≡ Some x → IsEnding sessions (Some p) x
ends-at sessions p x advance.Ended (Some s) ends was h = record { progress = p; is = refl; ends = ends; session = s; was = was; says = h }
ends-at sessions p x a o ends was h = absurd (cc)

ends-by : (sessions : fin.FinMap nat_cmp Session) (p : Option Progress) (x : Ended) → ended_by p (ended_session sessions p) ≡ Some x → IsEnding sessions p x
ends-by sessions None x h = absurd (cc)
ends-by sessions (Some p) x h = ends-at sessions p x p.advance (fin.get sessions p.tag) refl refl h

stored_with : (s : Session) (p : Phase) → stored (with_phase s p) ≡ stored s
stored_with (session.Store e b) p = refl
stored_with (session.Querying q) p = refl
stored_with (session.StoringBack q b) p = refl

-- what is told of an operation that ends: its tag, and what it gives
record IsEnd (tag : ℕ) (s : Session) (x : Ended) : Type 0 where
  tagged : x.tag ≡ tag
  returned : (view : ViewMap) → x.what ≡ op_result.Returned view → (kind_of s ≡ kind.Collect) × (stored s ≡ Some view)
  stored : x.what ≡ op_result.Stored → (e : Stored) × (kind_of s ≡ kind.Store e)

is_end : (tag : ℕ) (s : Session) (x : Ended) → ended_with tag s ≡ Some x → IsEnd tag s x
is_end tag (session.Store e b) x h =
    subst (IsEnd tag (session.Store e b)) (same_Some _ _ h) (record { tagged = refl; returned = λ view is. absurd (cc); stored = λ is. (e, refl) })
is_end tag (session.Querying p) x h = absurd (cc)
is_end tag (session.StoringBack p b) x h =
    subst (IsEnd tag (session.StoringBack p b)) (same_Some _ _ h)
    (record {
      tagged = refl;
      returned = λ view is. let same : b.view ≡ view = cc in (refl, ap (λ (y : ViewMap). let o : Option ViewMap = Some y in o) same);
      stored = λ is. absurd (cc);
    })

-- the record of an operation that ended, as what it was and with what it held
record HasEnded (w : WorldState) (place q tag : ℕ) (s : Session) : Type 0 where
  op : Op
  among : Among op w.ops
  by : op.node ≡ q
  tagged : op.tag ≡ tag
  ended : op.end ≡ Some place
  kind : kind_of op.session ≡ kind_of s
  held : stored op.session ≡ stored s

module _ (w : WorldState) (place q tag : ℕ) (s : Session) (x : Ended) (h : HasEnded w place q tag s) (says : ended_with tag s ≡ Some x) where
  has_returned : (view : ViewMap) → x.what ≡ op_result.Returned view → HasReturned w place q x.tag view
  has_returned view what =
      let end = is_end tag s x says in
      let c = end.returned view what in
      record {
        op = h.op;
        among = h.among;
        by = h.by;
        tagged = h.tagged ∙ sym end.tagged;
        ended = h.ended;
        returned = (λ i. returned_by ((h.kind ∙ c.0) i) (h.ended i) (stored h.op.session)) ∙ h.held ∙ c.1;
      }

  has_stored : x.what ≡ op_result.Stored → HasStored w place q x.tag
  has_stored what =
      let end = is_end tag s x says in
      let c = end.stored what in
      record { op = h.op; among = h.among; by = h.by; tagged = h.tagged ∙ sym end.tagged; ended = h.ended; entry = c.0; kind = h.kind ∙ c.1 }

module _ (w : WorldState) (e : WorldEvent) (q : ℕ) (n : NodeState) (at : fin.get w.nodes q ≡ Some n) (linked : IsLinked w) (from : ℕ)
    (b : Body) where
  -- a session of the node is that of an operation which has not ended
  session_open : (o : Op) (s : Session) (t : ℕ) → Among o w.ops → o.node ≡ q → o.tag ≡ t → fin.get n.sessions t ≡ Some s
      → (o.end ≡ None) × (o.session ≡ s)
  session_open = is_open (site_of w e q n at linked) (heard n from b) (heard_moves n from b)

  open_by : (p : Option Progress) → IsMove n from b p → (o : Op) → Among o w.ops → (k : Progress) → p ≡ Some k → o.node ≡ q → o.tag ≡ k.tag
      → o.end ≡ None
  open_by None m o in' k is by tagged = absurd (cc)
  open_by (Some p) m o in' k is by tagged =
      let same : k ≡ p = cc in
      let at_tag : o.tag ≡ p.tag = tagged ∙ ap (λ (x : Progress). x.tag) same in
      elim m [
        | inl a ↦ (session_open o a.session p.tag in' by at_tag a.was).0
        | inr a ↦ (session_open o (session.Querying a.phase) p.tag in' by at_tag a.was).0
      ]

  -- a message moves only operations that have not ended
  pub moved_open : (o : Op) → Among o w.ops → (k : Progress) → progress_of n from b ≡ Some k → o.node ≡ q → o.tag ≡ k.tag → o.end ≡ None
  moved_open o in' k is by tagged = open_by (progress_of n from b) (moves n from b) o in' k is by tagged

  -- the record of the operation that a message ends
  heard_ended : (x : Ended) (k : IsEnding n.sessions (progress_of n from b) x) (o : Op) → Among o w.ops → o.node ≡ q → o.tag ≡ k.progress.tag
      → HasEnded (after w e q (heard n from b)) (clock w) q k.progress.tag k.session
  heard_ended x k o in' by tagged =
      let p = k.progress in
      let move : Op → Op = advanced q (clock w) (progress_of n from b) in
      let o' : Op = move o in
      let f = session_open o k.session p.tag in' by tagged k.was in
      let turns : moved (clock w) p o ≡ o' =
      advance_op q (clock w) p o (λ (y : Op). moved (clock w) p o ≡ y) (λ _ _. refl) (λ other. absurd (other by tagged))
      ∙ ap (λ (y : Option Progress). advanced q (clock w) y o) (sym k.is) in
      record {
        op = o';
        among = among_left o' (map move w.ops) [] (among-image move o w.ops in');
        by = ap (λ (y : Op). y.node) (sym turns) ∙ by;
        tagged = ap (λ (y : Op). y.tag) (sym turns) ∙ tagged;
        ended = ap (λ (y : Op). y.end) (sym turns) ∙ ap (end_at (clock w)) k.ends;
        kind = ap (λ (y : Op). kind_of y.session) (sym turns) ∙ kind_kept o.session p.sender p.advance ∙ ap kind_of f.1;
        held =
            ap (λ (y : Op). stored y.session) (sym turns)
            ∙ ap (λ (a : Advance). stored (advanced_by p.sender a o.session)) k.ends
            ∙ stored_with o.session (count_sender (open_phase o.session) p.sender)
            ∙ ap (λ (s : Session). stored s) f.1;
      }

-- where an event tells of no end
no_end : (w : WorldState) (e : WorldEvent) (a : WorldStep) (w' : WorldState) → a.ended ≡ None → EndIsRecorded w e a w'
no_end w e a w' none = record {
  returned = λ x view is what. let k : None ≡ Some x = sym none ∙ is in absurd (cc);
  stored = λ x is what. let k : None ≡ Some x = sym none ∙ is in absurd (cc);
}

module _ (w : WorldState) (linked : IsLinked w) (t : IsTallied w) where
  module _ (number q : ℕ) (n : NodeState) (at : fin.get w.nodes q ≡ Some n) (m : Message) where
    abbrev e : WorldEvent
    e = event.Deliver number q

    abbrev r : Outcome
    r = heard n m.from m.body

    ended_of : (x : Ended) (k : IsEnding n.sessions (progress_of n m.from m.body) x) → HasEnded (after w e q r) (clock w) q k.progress.tag k.session
    ended_of x k =
        let o = t.kept q n at k.progress.tag k.session k.was in
        heard_ended w e q n at linked m.from m.body x k o.op o.among o.by o.tagged

    heard_recorded : EndIsRecorded w e (told w r) (after w e q r)
    heard_recorded = record {
      returned = λ x view is what.
          let k = ends-by n.sessions (progress_of n m.from m.body) x is in
          has_returned (after w e q r) (clock w) q k.progress.tag k.session x (ended_of x k) k.says view what;
      stored = λ x is what.
          let k = ends-by n.sessions (progress_of n m.from m.body) x is in
          has_stored (after w e q r) (clock w) q k.progress.tag k.session x (ended_of x k) k.says what;
    }

  pub step_recorded : (e : WorldEvent) (a : WorldStep) (w' : WorldState) → stepped w e ≡ Ok (a, w') → EndIsRecorded w e a w'
  step_recorded = by_event w (EndIsRecorded w) (record {
    entered = λ q at. no_end w (event.Enter q) _ _ refl;
    left = λ q n at. no_end w (event.Leave q) _ _ refl;
    crashed = λ q. no_end w (event.Crash q) _ _ refl;
    stored = λ q value n at. no_end w (event.Store q value) _ _ refl;
    collected = λ q n at. no_end w (event.Collect q) _ _ refl;
    delivered = λ number q n m at sent. heard_recorded number q n at m;
  })
