-- What an event adds to a history.
use Rattle.std.proofs.Common.{◌≡◌, ℕ, ◌≤◌, List, [], ◌∷◌, ◌++◌, take, refl, sym, ap, ◌∙◌, subst, Ok}
use Rattle.std.proofs.lemmas.List.{take-append-le, append-nil}
use Rattle.std.proofs.Math.Seq.{take-length}
use Rattle.sc_members.specs.Members.{Config}
use Rattle.sc_msg.specs.declared.message.Message.{Message}
use Rattle.sc_world.specs.declared.event.WorldEvent.{WorldEvent}
use Rattle.sc_world.specs.declared.event.WorldEvent.TheVariants as event
use Rattle.sc_world.specs.declared.event.WorldStep.{WorldStep}
use Rattle.sc_world.specs.State.{WorldState}
use Rattle.sc_world.specs.Worlds.{clock, Outcome, after, stepped, Reaches, start, IsHistory, WasBefore}
use Rattle.sc_world.proofs.Handlers.{heard, store_outcome, collect_outcome, left_outcome, entered_outcome}
use Rattle.sc_world.proofs.Inverts.{by_event}

-- the event is one more, and messages only grow
pub record IsNext (w : WorldState) (e : WorldEvent) (w' : WorldState) : Type 0 where
  pub config : w'.config ≡ w.config
  pub founders : w'.founders ≡ w.founders
  pub events : w'.events ≡ w.events ++ e ∷ []
  pub outs : List Message
  pub sent : w'.sent ≡ w.sent ++ outs

after_next : (w : WorldState) (e : WorldEvent) (q : ℕ) (r : Outcome) → IsNext w e (after w e q r)
after_next w e q r = record { config = refl; founders = refl; events = refl; outs = r.outs; sent = refl }

pub step_next : (w : WorldState) (e : WorldEvent) (a : WorldStep) (w' : WorldState) → stepped w e ≡ Ok (a, w') → IsNext w e w'
step_next w = by_event w (λ e a w'. IsNext w e w') (record {
  entered = λ q at. after_next w (event.Enter q) q (entered_outcome w.config q);
  left = λ q n at. after_next w (event.Leave q) q (left_outcome n);
  crashed = λ q. record { config = refl; founders = refl; events = refl; outs = []; sent = sym (append-nil w.sent) };
  stored = λ q value n at. after_next w (event.Store q value) q (store_outcome n value);
  collected = λ q n at. after_next w (event.Collect q) q (collect_outcome n);
  delivered = λ number q n m at sent. after_next w (event.Deliver number q) q (heard n m.from m.body);
})

pub reaches_next : (es : List WorldEvent) (w u : WorldState) (e : WorldEvent) (a : WorldStep) (w' : WorldState) → Reaches w es u
    → stepped u e ≡ Ok (a, w') → Reaches w (es ++ e ∷ []) w'
reaches_next [] w u e a w' h s = (a, w', subst (λ (x : WorldState). stepped x e ≡ Ok (a, w')) h s, refl)
reaches_next (f ∷ es) w u e a w' h s = (h.0, h.1, h.2, reaches_next es h.1 u e a w' h.3 s)

-- the start of a history, by its parts
starts : (c d : Config) (ids jds : List ℕ) (es fs : List WorldEvent) (w : WorldState) → d ≡ c → jds ≡ ids → fs ≡ es → Reaches (start c ids) es w
    → Reaches (start d jds) fs w
starts c d ids jds es fs w hc hi he r =
    subst (λ (x : Config). Reaches (start x jds) fs w) (sym hc)
    (subst (λ (x : List ℕ). Reaches (start c x) fs w) (sym hi) (subst (λ (x : List WorldEvent). Reaches (start c ids) x w) (sym he) r))

pub history_next : (w : WorldState) (e : WorldEvent) (a : WorldStep) (w' : WorldState) → IsHistory w → stepped w e ≡ Ok (a, w') → IsHistory w'
history_next w e a w' h s =
    let k = step_next w e a w' s in
    starts w.config w'.config w.founders w'.founders (w.events ++ e ∷ []) w'.events w' k.config k.founders k.events
    (reaches_next w.events (start w.config w.founders) w e a w' h s)

-- what was once, was so later
pub before_next : (w : WorldState) (e : WorldEvent) (w' : WorldState) (place : ℕ) (u : WorldState) → IsNext w e w' → place ≤ clock w
    → WasBefore w place u → WasBefore w' place u
before_next w e w' place u k le h =
    starts w.config w'.config w.founders w'.founders (take place w.events) (take place w'.events) u k.config k.founders
    (ap (take place) k.events ∙ take-append-le place w.events (e ∷ []) le) h

pub was_now : (w : WorldState) → IsHistory w → WasBefore w (clock w) w
was_now w h = starts w.config w.config w.founders w.founders w.events (take (clock w) w.events) w refl refl (take-length w.events) h

-- every run of founders is a history
pub run_history : (es : List WorldEvent) (w w' : WorldState) → IsHistory w → Reaches w es w' → IsHistory w'
run_history [] w w' i h = subst IsHistory (sym h) i
run_history (e ∷ es) w w' i h = run_history es h.1 w' (history_next w e h.0 h.1 i h.2) h.3

pub start_history : (c : Config) (ids : List ℕ) → IsHistory (start c ids)
start_history c ids = refl
