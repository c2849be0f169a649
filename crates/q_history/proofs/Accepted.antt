-- What a node does at a call is an event that its world accepts, or nothing; and nothing is lost at it.
use Rattle.std.proofs.Common.{◌≡◌, ℕ, List, [], ◌++◌, Option, Some, None, refl, sym, ap, ◌∙◌, subst, slice_get, Result, Ok, Err}
use Rattle.std.specs.Prelude.{option_map}
use Rattle.std.proofs.lemmas.List.{append-nil}
use Rattle.std.specs.FinMap as fin
use Rattle.sc_msg.specs.declared.message.Message.{Message}
use Rattle.sc_node.specs.declared.answer.Begun.{Begun}
use Rattle.sc_node.specs.State.{NodeState}
use Rattle.sc_world.specs.declared.act.BegunOp.{BegunOp}
use Rattle.sc_world.specs.declared.event.WorldEvent.{WorldEvent}
use Rattle.sc_world.specs.declared.event.WorldEvent.TheVariants as event
use Rattle.reasons.specs.declared.Reason.{Reason}
use Rattle.reasons.specs.declared.Reason.TheVariants as reasons
use Rattle.sc_world.specs.State.{Past, WorldState}
use Rattle.sc_world.specs.Ledgers.{recorded}
use Rattle.sc_world.specs.Worlds.{Outcome, of_left, of_begun, of_delivered, told as tells, after, took as took_by, acts}
use Rattle.sc_world.specs.Worlds.{by_node, by_live, live_at, leaves, stores, collects, delivers, node_of, stepped}
use Rattle.sc_world.proofs.Inverts.{no_refusal, stores-ok, collects-ok, leaves-ok, delivers-ok}
use Rattle.sc_world.proofs.Links.{IsLinked}
use Rattle.sc_world.proofs.Handlers.{heard}
use Rattle.sc_world.proofs.Ends.{moved_open}
use Rattle.q_desk.proofs.Changes.{Told, left, began, took}
use Rattle.q_book.specs.State.{BookState}
use Rattle.q_book.proofs.Followed.{Deed, Leaves, Collects, Stores, Delivers, Idles, NodeDid}
use Rattle.q_history.proofs.Lists.{none-some}
use Rattle.q_history.proofs.Ops.{IsOnward, after_onward}

-- ---- an event of a node

-- what the node does at it
abbrev pub acts_at : List Message → WorldEvent → NodeState → Result Outcome Reason
acts_at sent (event.Leave id) n = leaves n
acts_at sent (event.Store id value) n = stores value n
acts_at sent (event.Collect id) n = collects n
acts_at sent (event.Deliver number id) n = delivers (slice_get sent number) n
acts_at sent e n = Err reasons.NoSuchNode

module _ (w : WorldState) (n : NodeState) (r : Outcome) where
  -- a live node takes an event
  acts_ok : (e : WorldEvent) (q : ℕ) (f : NodeState → Result Outcome Reason) → live_at w q ≡ Some n → f n ≡ Ok r → acts w e q f ≡ Ok (tells w r, after w e q r)
  acts_ok e q f live gives = ap (λ (o : Option NodeState). took_by w e q (by_live o f)) live ∙ ap (took_by w e q) gives

  step_by : (e : WorldEvent) → live_at w (node_of e) ≡ Some n → acts_at w.sent e n ≡ Ok r → stepped w e ≡ Ok (tells w r, after w e (node_of e) r)
  step_by (event.Leave q) live gives = acts_ok (event.Leave q) q leaves live gives
  step_by (event.Store q value) live gives = acts_ok (event.Store q value) q (stores value) live gives
  step_by (event.Collect q) live gives = acts_ok (event.Collect q) q collects live gives
  step_by (event.Deliver number q) live gives = acts_ok (event.Deliver number q) q (delivers (slice_get w.sent number)) live gives
  step_by (event.Enter q) live gives = absurd (no_refusal _ r gives)
  step_by (event.Crash q) live gives = absurd (no_refusal _ r gives)

  -- so the world accepts it
  pub act_step : (e : WorldEvent) (id : ℕ) → node_of e ≡ id → live_at w id ≡ Some n → acts_at w.sent e n ≡ Ok r → stepped w e ≡ Ok (tells w r, after w e id r)
  act_step e id by live gives =
      subst (λ (q : ℕ). stepped w e ≡ Ok (tells w r, after w e q r)) by (step_by e (ap (live_at w) by ∙ live) gives)

  module _ (id : ℕ) where
    -- an event that moves no operation
    pub still_onward : (e : WorldEvent) → r.progress ≡ None → IsOnward w.ops (after w e id r).ops
    still_onward e still = after_onward w e id r (λ o in' k some by tagged. absurd (none-some k (sym still ∙ some)))

    -- a message that is delivered moves an operation that has not ended
    delivery_onward : (e : WorldEvent) (o : Option Message) → IsLinked w → fin.get w.nodes id ≡ Some n → delivers o n ≡ Ok r
        → IsOnward w.ops (after w e id r).ops
    delivery_onward e None linked at gives = absurd (no_refusal _ r gives)
    delivery_onward e (Some m) linked at gives =
        subst (λ (x : Outcome). IsOnward w.ops (after w e id x).ops) (delivers-ok m n r gives)
        (after_onward w e id (heard n m.from m.body) (moved_open w e id n at linked m.from m.body))

    -- no record is lost
    pub act_onward : (e : WorldEvent) → IsLinked w → fin.get w.nodes id ≡ Some n → acts_at w.sent e n ≡ Ok r → IsOnward w.ops (after w e id r).ops
    act_onward (event.Leave q) linked at h = still_onward (event.Leave q) (ap (λ (x : Outcome). x.progress) (sym (leaves-ok n r h)))
    act_onward (event.Store q value) linked at h = still_onward (event.Store q value) (ap (λ (x : Outcome). x.progress) (sym (stores-ok value n r h)))
    act_onward (event.Collect q) linked at h = still_onward (event.Collect q) (ap (λ (x : Outcome). x.progress) (sym (collects-ok n r h)))
    act_onward (event.Deliver number q) linked at h = delivery_onward (event.Deliver number q) (slice_get w.sent number) linked at h
    act_onward (event.Enter q) linked at h = absurd (no_refusal _ r h)
    act_onward (event.Crash q) linked at h = absurd (no_refusal _ r h)

-- ---- what a node does at a call

-- a message that it takes was sent under some number
abbrev pub WasSent : List Message → Deed → Type 0
WasSent sent (Delivers m) = (number : ℕ) × (slice_get sent number ≡ Some m)
WasSent sent x = Unit {0}

abbrev pub event_for : (id : ℕ) (sent : List Message) (x : Deed) → WasSent sent x → Option WorldEvent
event_for id sent Leaves s = Some (event.Leave id)
event_for id sent Collects s = Some (event.Collect id)
event_for id sent (Stores value) s = Some (event.Store id value)
event_for id sent (Delivers m) s = Some (event.Deliver s.0 id)
event_for id sent Idles s = None

abbrev pub begun_op_by : Begun → BegunOp
begun_op_by a = record { tag = a.tag; session = a.session }

-- what was told of a call, as the world has it
abbrev pub outcome : Told → NodeState → Outcome
outcome t n = record { node = n; outs = t.outs; progress = t.progress; begun = option_map begun_op_by t.begun; ended = t.ended }

abbrev pub silent : NodeState → Outcome
silent n = record { node = n; outs = []; progress = None; begun = None; ended = None }

-- this is an event of the node, which does so, or the node does nothing
abbrev pub Acted : ℕ → List Message → Option WorldEvent → NodeState → Outcome → Type 0
Acted id sent None n r = silent n ≡ r
Acted id sent (Some e) n r = (node_of e ≡ id) × (acts_at sent e n ≡ Ok r)

module _ (id : ℕ) (sent : List Message) (b : BookState) where
  -- what comes of a node's call is what was told of it
  so_told : (t u : Told) (n : NodeState) (x : Result Outcome Reason) → x ≡ Ok (outcome t n) → t ≡ u → x ≡ Ok (outcome u n)
  so_told t u n x h is = h ∙ ap (λ (y : Told). let r : Result Outcome Reason = Ok (outcome y n) in r) is

  pub did_act : (x : Deed) (s : WasSent sent x) (t : Told) (n : NodeState) → NodeDid b x t n → Acted id sent (event_for id sent x s) b.node (outcome t n)
  did_act Leaves s t n d = (refl, so_told (left d.0) t n _ (ap (by_node of_left) d.1) d.2)
  did_act Collects s t n d = (refl, so_told (began d.0) t n _ (ap (by_node of_begun) d.1) d.2)
  did_act (Stores value) s t n d = (refl, so_told (began d.0) t n _ (ap (by_node of_begun) d.1) d.2)
  did_act (Delivers m) s t n d =
      (refl, so_told (took d.0) t n _ (ap (λ (o : Option Message). delivers o b.node) s.1 ∙ ap (by_node of_delivered) d.1) d.2)
  did_act Idles s t n d = ap silent d.0 ∙ ap (λ (y : Told). outcome y n) d.1

-- what the ledger makes of it
abbrev pub ledger : Past → ℕ → Option WorldEvent → Outcome → Past
ledger p id None r = p
ledger p id (Some e) r = recorded p e id r.outs r.progress r.begun

pub ledger_sent : (p : Past) (id : ℕ) (o : Option WorldEvent) (n : NodeState) (r : Outcome) → Acted id p.sent o n r → (ledger p id o r).sent ≡ p.sent ++ r.outs
ledger_sent p id None n r h = sym (append-nil p.sent) ∙ ap (λ (x : Outcome). p.sent ++ x.outs) h
ledger_sent p id (Some e) n r h = refl
