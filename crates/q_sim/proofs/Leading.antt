-- Each line of a script leads to its next cluster by accepted events, and a line that was refused stays told.
use Rattle.std.proofs.Common.{◌≡◌, inl, inr, ℕ, zero, suc, Bool, true, false, List, [], ◌∷◌, ◌++◌, Option, Some, None, refl, sym, ap, ◌∙◌, subst}
use Rattle.std.specs.Prelude.{if◌then◌else◌, Result, Ok, Err, string_bytes}
use Rattle.sc_members.specs.Members.{Config}
use Rattle.sc_msg.specs.declared.version.Version.{Version}
use Rattle.reasons.specs.declared.Reason.{Reason}
use Rattle.reasons.specs.declared.Reason.TheVariants as reasons
use Rattle.sc_world.proofs.Inverts.{no_refusal, same_answer}
use Rattle.q_book.specs.State.{BookState}
use Rattle.q_script.specs.declared.call_line.CallLine.TheVariants.{Program}
use Rattle.q_script.specs.declared.line.ScriptLine.{ScriptLine}
use Rattle.q_script.specs.declared.line.ScriptLine.TheVariants.{Call, All, Pairs, Journal}
use Rattle.q_history.specs.declared.event.ClusterEvent.{ClusterEvent}
use Rattle.q_desk.specs.declared.journal.Call.TheVariants as call
use Rattle.q_history.specs.declared.event.ClusterEvent.TheVariants as event
use Rattle.q_history.specs.declared.event.ClusterStep.{ClusterStep}
use Rattle.q_history.specs.Headline.{ClusterState}
use Rattle.q_history.specs.Clusters.{start}
use Rattle.q_history.proofs.Histories.{reaches_on}
use Rattle.q_cluster.specs.Acts.{book_at}
use Rattle.q_cluster.proofs.Histories.{Leads, event_leads}
use Rattle.q_told.specs.declared.refusal.RefusedLine.{RefusedLine}
use Rattle.q_told.specs.declared.refusal.Refusal.{Refusal}
use Rattle.q_told.specs.declared.refusal.Refusal.TheVariants.{FileFailed, Cluster, OutOfMemory}
use Rattle.q_sim.specs.Simulates.{SimState, Writing, at_next_line, is_any, no_such_node, refusing, or_refused, with_fault}
use Rattle.q_sim.specs.Simulates.{Acts, Registers, Tries, DeliversAll, SavesAny, Does, Plays}

pub leads_itself : (c : ClusterState) → Leads c c
leads_itself c = ([], refl)

pub leads_on : (a b c : ClusterState) → Leads a b → Leads b c → Leads a c
leads_on a b c h k = (h.0 ++ k.0, reaches_on h.0 k.0 a b c h.1 k.1)

-- ---- one state to another

-- some fault is one of these and one more
pub any_with : (faults : List RefusedLine) (line : ℕ) (r : Refusal) → is_any (with_fault line r faults) ≡ true
any_with [] line r = refl
any_with (f ∷ fs) line r = refl

-- its cluster leads to the other's, and it stays told that a line was refused
pub record IsLed (s t : SimState) : Type 0 where
  pub leads : Leads s.cluster t.cluster
  pub refused : is_any s.faults ≡ true → is_any t.faults ≡ true

led_itself : (s t : SimState) → t ≡ s → IsLed s t
led_itself s t same = subst (IsLed s) (sym same) (record { leads = leads_itself s.cluster; refused = λ h. h })

led_refusing : (s t : SimState) (r : Refusal) → t ≡ refusing r s → IsLed s t
led_refusing s t r same = subst (IsLed s) (sym same) (record { leads = leads_itself s.cluster; refused = λ h. any_with s.faults s.line r })

-- the next line is run
led_next : (s : SimState) → IsLed s (at_next_line s)
led_next s = record { leads = leads_itself s.cluster; refused = λ h. h }

led_on : {s t u : SimState} → IsLed s t → IsLed t u → IsLed s u
led_on {s} {t} {u} h k = record { leads = leads_on s.cluster t.cluster u.cluster h.leads k.leads; refused = λ told. k.refused (h.refused told) }

still_refused : (line : ℕ) (r : Result ClusterStep Reason) (faults : List RefusedLine) → is_any faults ≡ true → is_any (or_refused line r faults) ≡ true
still_refused line (Ok told) faults h = h
still_refused line (Err f) faults h = any_with faults line (Cluster f)

pub acts_led : (e : ClusterEvent) (s : SimState) (text : List ℕ) (t : SimState) → Acts e s text t → IsLed s t
acts_led e s text t h =
    record { leads = event_leads s.cluster e t.cluster h.result h.takes; refused = λ told. ap is_any h.faults ∙ still_refused s.line h.result s.faults told }

tries_led : (s : SimState) (message node : ℕ) (t : SimState) → Tries s message node t → IsLed s t
tries_led s message node t h =
    record { leads = event_leads s.cluster (event.Deliver message node) t.cluster h.result h.takes; refused = λ told. ap is_any h.faults ∙ told }

registers_led : (node : ℕ) (code : List ℕ) (s : SimState) (text : List ℕ) (t : SimState) → Registers node code s text t → IsLed s t
registers_led node code s text t h = elim h [ inl a ↦ acts_led (event.Call node (call.Register a.0)) s text t a.2 | inr r ↦ led_refusing s t r.0 r.2 ]

delivers_led : (limit : ℕ) (s : SimState) (text : List ℕ) (t : SimState) → DeliversAll limit s text t → IsLed s t
delivers_led zero s text t h = led_itself s t h.0
delivers_led (suc n) s text t h = elim h [
  | inl none ↦ led_itself s t none.1
  | inr (inl wants) ↦ led_refusing s t OutOfMemory wants.1
  | inr (inr d) ↦ led_on (tries_led s d.0 d.1 d.2 d.4) (delivers_led n d.2 text t d.5)
]

saves_led : {F : Type 0} (writes : Writing F) (book : Option BookState) (name : List ℕ) (s : SimState) (before : F) (text : List ℕ) (t : SimState) (after : F)
    → SavesAny writes book name s before text t after → IsLed s t
saves_led writes None name s before text t after h = led_refusing s t no_such_node h.0
saves_led writes (Some b) name s before text t after h = elim h [
  | inl written ↦ led_itself s t written.1
  | inr failed ↦ subst (IsLed s) (sym failed.1) (record { leads = leads_itself s.cluster; refused = λ told. any_with s.faults s.line FileFailed })
]

-- ---- lines

pub does_led : {F : Type 0} (writes : Writing F) (l : ScriptLine) (s : SimState) (before : F) (text : List ℕ) (t : SimState) (after : F)
    → Does writes l s before text t after → IsLed s t
does_led writes (Call (Program node code)) s before text t after h = registers_led node code.items s text t h.0
does_led writes (All limit) s before text t after h = delivers_led limit s text t h.0
does_led writes Pairs s before text t after h = led_itself s t h.0.1
does_led writes (Journal node file) s before text t after h = saves_led writes (book_at s.cluster node) (string_bytes file) s before text t after h
does_led writes event s before text t after h = acts_led _ s text t h.0

pub plays_led : {F : Type 0} (writes : Writing F) (ls : List ScriptLine) (s : SimState) (before : F) (text : List ℕ) (t : SimState) (after : F)
    → Plays writes ls s before text t after → IsLed s t
plays_led writes [] s before text t after p = led_itself s t p.0
plays_led writes (l ∷ ls) s before text t after p =
    led_on (led_on (led_next s) (does_led writes l (at_next_line s) before p.2 p.0 p.1 p.4)) (plays_led writes ls p.0 p.1 p.3 t after p.5)

-- founders that are not refused are those of the first cluster
pub founded-ok : (version : Version) (config : Config) (ids : List ℕ) (are : Bool) (c : ClusterState)
    → (if are then Ok (start version config ids) else Err reasons.BadFounders) ≡ Ok c → start version config ids ≡ c
founded-ok version config ids true c h = same_answer _ c h
founded-ok version config ids false c h = absurd (no_refusal _ c h)
