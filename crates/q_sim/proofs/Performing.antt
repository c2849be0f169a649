-- What a line does, by its kind.
use Rattle.std.proofs.Common.{◌≡◌, ℕ, List, Option, Some, refl, sym, ap, subst, Result, Ok, Err, OnOk}
use Rattle.q_script.specs.declared.call_line.CallLine.TheVariants.{Program, Store}
use Rattle.q_script.specs.declared.line.ScriptLine.{ScriptLine}
use Rattle.q_script.specs.declared.line.ScriptLine.TheVariants.{Call, All, Pairs, Journal}
use Rattle.q_history.specs.declared.event.ClusterEvent.{ClusterEvent}
use Rattle.q_sim.specs.declared.simulation.Simulation.{Simulation}
use Rattle.q_sim.specs.Simulates.{SimState, Writing, Acts, ActsAs, Does, LeavesFiles, event_of}
use Rattle.q_sim.specs.Seen.{Prints, PrintsOver}

-- the files stay
pub leaves_files : {X E F : Type 0} (r : Result X E) (does : SimState → List ℕ → SimState → Type 0) (old new : Simulation) (files : F)
    → OnOk r (Prints does old new) → OnOk r (PrintsOver (LeavesFiles does) old files new files)
leaves_files (Err x) does old new files h = tt
leaves_files (Ok x) does old new files h = (h.0, (h.1, refl), h.2)

pub performed : {X E F : Type 0} (writes : Writing F) (r : Result X E) (old new : Simulation) (before after : F) (line known : ScriptLine) → line ≡ known
    → OnOk r (PrintsOver (Does writes known) old before new after) → OnOk r (PrintsOver (Does writes line) old before new after)
performed writes r old new before after line known is h = subst (λ (l : ScriptLine). OnOk r (PrintsOver (Does writes l) old before new after)) (sym is) h

-- what a line does that is an event: it is the event, and the files stay
pub does_event : {F : Type 0} (writes : Writing F) (line : ScriptLine) (e : ClusterEvent) → event_of line ≡ Some e → Does writes line ≡ LeavesFiles (Acts e)
does_event writes (Call (Program node code)) e is = absurd cc
does_event writes (Call (Store node value)) e is = absurd cc
does_event writes (All limit) e is = absurd cc
does_event writes Pairs e is = absurd cc
does_event writes (Journal node file) e is = absurd cc
does_event writes _ e is = ap (λ (o : Option ClusterEvent). LeavesFiles (ActsAs o)) is

pub acted : {X E F : Type 0} (writes : Writing F) (r : Result X E) (old new : Simulation) (files : F) (line : ScriptLine) (e : ClusterEvent)
    → Some e ≡ event_of line → OnOk r (Prints (Acts e) old new) → OnOk r (PrintsOver (Does writes line) old files new files)
acted {F = F} writes r old new files line e is h =
    subst (λ (does : SimState → F → List ℕ → SimState → F → Type 0). OnOk r (PrintsOver does old files new files)) (sym (does_event writes line e (sym is)))
    (leaves_files r (Acts e) old new files h)
