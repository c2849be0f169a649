-- What the parts of an event make together.
use Rattle.std.proofs.Common.{◌≡◌, ◌≢◌, ℕ, zero, suc, ◌<◌, Bool, true, false, cond, ◌&&◌, ◌||◌, List, [], ◌∷◌, length}
use Rattle.std.proofs.Common.{get_or, Option, Some, None, is_some, refl, sym, ap, ◌∙◌, arith, Result, Ok, Err}
use Rattle.std.proofs.lemmas.Bool.{eq-eqb, or_right}
use Rattle.std.specs.Ordering.{nat_cmp, eq_by_cmp}
use Rattle.std.specs.Cmp.{nat_cmp_total, unsigned_tied}
use Rattle.std.specs.List.{list_any}
use Rattle.std.specs.FinMap as fin
use Rattle.std.specs.FinSet as set
use Rattle.sc_members.specs.Members.{Config}
use Rattle.sc_msg.specs.declared.message.Message.{Message}
use Rattle.reasons.specs.declared.Reason.{Reason}
use Rattle.reasons.specs.declared.Reason.TheVariants as reasons
use Rattle.sc_node.specs.State.{NodeState}
use Rattle.sc_node.specs.Nodes.{entered, founded, founder, are_founders}
use Rattle.sc_world.specs.declared.act.Act.{Act}
use Rattle.sc_world.specs.declared.act.Act.TheVariants as act
use Rattle.sc_world.specs.declared.act.Report.{Report}
use Rattle.sc_world.specs.declared.event.WorldEvent.{WorldEvent}
use Rattle.sc_world.specs.declared.event.WorldEvent.TheVariants as event
use Rattle.sc_world.specs.declared.event.Sent.{Sent}
use Rattle.sc_world.specs.declared.event.WorldStep.{WorldStep}
use Rattle.sc_world.specs.State.{WorldState, Past, world_of, past_of}
use Rattle.sc_world.specs.Ledgers.{recorded, numbered, stopped}
use Rattle.forms.specs.Calls.{Steps}
use Rattle.std.specs.Prelude.{IsErrAnd}
use Rattle.sc_world.specs.Worlds.{Outcome, live_at, by_live, took, acts, acted, of_entered, tag_of}
use Rattle.sc_world.specs.Worlds.{crashes, enters, event_of, stepped, founder_nodes, founded_nodes}
use Rattle.sc_world.specs.Acts.{begun_in, outcome, progress_in}

pub act_step : (w : WorldState) (e : WorldEvent) (id : ℕ) (a : Act) (r : Report) (n : NodeState) (nodes : fin.FinMap nat_cmp NodeState) (past : Past)
    (tag : Option ℕ) (numbers : Sent) → by_live (live_at w id) (acted w.sent a) ≡ Ok (outcome r n) → nodes ≡ fin.insert w.nodes id n
    → past ≡ recorded (past_of w) e id r.outs (progress_in r.change) (begun_in r.change)
    → tag ≡ tag_of (begun_in r.change) → numbers ≡ numbered (past_of w) r.outs
    → acts w e id (acted w.sent a) ≡ Ok (record { tag = tag; ended = r.ended; sent = numbers }, world_of nodes past)
act_step w e id a r n nodes past tag numbers said hn hp ht hf =
    ap (took w e id) said ∙ (λ i. Ok (record { tag = sym ht i; ended = r.ended; sent = sym hf i }, world_of (sym hn i) (sym hp i)))

pub act_stepped : (w : WorldState) (id : ℕ) (a : Act) → stepped w (event_of id a) ≡ acts w (event_of id a) id (acted w.sent a)
act_stepped w id act.Leave = refl
act_stepped w id (act.Store value) = refl
act_stepped w id act.Collect = refl
act_stepped w id (act.Deliver number) = refl

-- an act that the node refuses, or for which memory was refused
pub act_refused : (w new : WorldState) (id : ℕ) (a : Act) (said : Result Outcome Reason) (f : Reason) (r : Result WorldStep Reason)
    → by_live (live_at w id) (acted w.sent a) ≡ said → new ≡ w → (f ≢ reasons.OutOfMemory → said ≡ Err f) → IsErrAnd r (λ e. e ≡ f)
    → Steps reasons.OutOfMemory (stepped w (event_of id a)) w new r
act_refused w new id a said f (Ok s) is same told gives = absurd gives
act_refused w new id a said f (Err e) is same told gives = (
  same,
  λ loud. act_stepped w id a ∙ ap (took w (event_of id a) id) (is ∙ told (λ m. loud (gives ∙ m)))
      ∙ ap (λ (x : Reason). let q : Result (WorldStep × WorldState) Reason = Err x in q) (sym gives),
)

by_absent : (w : WorldState) (id : ℕ) (o : Option NodeState) → is_some o ≡ false → enters w id o ≡ enters w id None
by_absent w id None h = refl
by_absent w id (Some n) h = absurd (cc)

pub enter_step : (w : WorldState) (id : ℕ) (node : NodeState) (outs : List Message) (nodes : fin.FinMap nat_cmp NodeState) (past : Past) (numbers : Sent)
    → is_some (fin.get w.nodes id) ≡ false → entered w.config id ≡ (node, outs) → nodes ≡ fin.insert w.nodes id node
    → past ≡ recorded (past_of w) (event.Enter id) id outs None None → numbers ≡ numbered (past_of w) outs
    → enters w id (fin.get w.nodes id) ≡ Ok (record { tag = None; ended = None; sent = numbers }, world_of nodes past)
enter_step w id node outs nodes past numbers absent made hn hp hf =
    by_absent w id (fin.get w.nodes id) absent
    ∙ ap (λ (p : NodeState × List Message). took w (event.Enter id) id (Ok (of_entered p))) made
    ∙ (λ i. Ok (record { tag = None; ended = None; sent = sym hf i }, world_of (sym hn i) (sym hp i)))

by_live_node : (w : WorldState) (id : ℕ) (o : Option NodeState) (n : NodeState) → true ≡ is_some o → crashes w id o ≡ crashes w id (Some n)
by_live_node w id (Some m) n h = refl
by_live_node w id None n h = absurd (cc)

live_node : (o : Option NodeState) → true ≡ is_some o → NodeState
live_node (Some n) h = n
live_node None h = absurd (cc)

pub crash_step : (w : WorldState) (id : ℕ) (past : Past) (numbers : Sent) → true ≡ is_some (live_at w id) → past ≡ stopped (past_of w) id
    → numbers ≡ record { first = length w.sent; count = 0 }
    → crashes w id (live_at w id) ≡ Ok (record { tag = None; ended = None; sent = numbers }, world_of w.nodes past)
crash_step w id past numbers lives hp hf =
    by_live_node w id (live_at w id) (live_node (live_at w id) lives) lives
    ∙ (λ i. Ok (record { tag = None; ended = None; sent = sym hf i }, world_of w.nodes (sym hp i)))

-- a founder is among the founders
any_at : (ids : List ℕ) (k d : ℕ) → k < length ids → list_any (eq_by_cmp nat_cmp (get_or ids k d)) ids ≡ true
any_at [] k d lt = absurd (omega (arith, lt))
any_at (x ∷ ids) zero d lt = ap (λ b. b || list_any (eq_by_cmp nat_cmp x) ids) (unsigned_tied x x ∙ eq-eqb x x refl)
any_at (x ∷ ids) (suc k) d lt =
    or_right (eq_by_cmp nat_cmp (get_or ids k d) x) (list_any (eq_by_cmp nat_cmp (get_or ids k d)) ids) (any_at ids k d (omega (arith, lt)))

pub has_at : (ids : List ℕ) (k d : ℕ) → k < length ids → set.contains (set.from_list {R = nat_cmp} ids) (get_or ids k d) ≡ true
has_at ids k d lt = set.contains-from_list nat_cmp_total ids (get_or ids k d) ∙ any_at ids k d lt

by_founders : (c : Config) (ids : List ℕ) (x : ℕ) (f : Reason) (a b : Bool) → are_founders ids ≡ a → b ≡ true
    → (let r : Result NodeState Reason = cond (a && b) (Ok (founder c ids x)) (Err reasons.BadFounders) in r) ≡ Err f
    → founded_nodes c ids ≡ Err f
by_founders c ids x f a false is has h = absurd (cc)
by_founders c ids x f true true is has h = absurd (cc)
by_founders c ids x f false true is has h =
    let same : reasons.BadFounders ≡ f = cc in
    ap (λ (t : Bool). let r : Result (fin.FinMap nat_cmp NodeState) Reason = cond t (Ok (founder_nodes c ids)) (Err reasons.BadFounders) in r) is
    ∙ ap (λ (y : Reason). let r : Result (fin.FinMap nat_cmp NodeState) Reason = Err y in r) same

-- the refusal of one founder is that of all
pub found_refused : (c : Config) (ids : List ℕ) (x : ℕ) (f : Reason) → set.contains (set.from_list {R = nat_cmp} ids) x ≡ true
    → (f ≢ reasons.OutOfMemory → founded c x ids ≡ Err f) → f ≢ reasons.OutOfMemory → founded_nodes c ids ≡ Err f
found_refused c ids x f has h no_memory =
    by_founders c ids x f (are_founders ids) (set.contains (set.from_list {R = nat_cmp} ids) x) refl has (h no_memory)
