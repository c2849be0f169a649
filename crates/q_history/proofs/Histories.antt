-- Histories that go on.
use Rattle.std.proofs.Common.{◌≡◌, List, [], ◌∷◌, ◌++◌, refl, sym, subst}
use Rattle.q_history.specs.declared.event.ClusterEvent.{ClusterEvent}
use Rattle.q_history.specs.declared.event.ClusterStep.{ClusterStep}
use Rattle.q_history.specs.Headline.{ClusterState}
use Rattle.q_history.specs.Clusters.{start}
use Rattle.q_history.specs.Calls.{Follows, Reaches, IsHistory}
use Rattle.q_history.proofs.Kept.{IsKept}
use Rattle.q_history.proofs.EveryHistory.{run_kept, every_kept}

pub reaches_on : (es fs : List ClusterEvent) (c d e : ClusterState) → Reaches c es d → Reaches d fs e → Reaches c (es ++ fs) e
reaches_on [] fs c d e r s = subst (λ (x : ClusterState). Reaches x fs e) r s
reaches_on (x ∷ es) fs c d e r s = (r.0, r.1, r.2, reaches_on es fs r.1 d e r.3 s)

pub reaches_one : (c d : ClusterState) (e : ClusterEvent) (told : ClusterStep) → Follows c e told d → Reaches c (e ∷ []) d
reaches_one c d e told f = (told, d, f, refl)

pub reaches_next : (es : List ClusterEvent) (c d : ClusterState) (e : ClusterEvent) (told : ClusterStep) (f : ClusterState) → Reaches c es d
    → Follows d e told f → Reaches c (es ++ e ∷ []) f
reaches_next es c d e told f r s = reaches_on es (e ∷ []) c d f r (reaches_one d f e told s)

pub history_kept : (c : ClusterState) → IsHistory c → IsKept c
history_kept c h = (every_kept c.version c.past.config c.past.founders h.0 c h.1).kept

pub history_run : (es : List ClusterEvent) (c d : ClusterState) → IsHistory c → Reaches c es d → IsHistory d
history_run es c d h r =
    let k = run_kept es c d (history_kept c h) r in
    let whole = reaches_on h.0 es (start c.version c.past.config c.past.founders) c d h.1 r in
    let same : start c.version c.past.config c.past.founders ≡ start d.version d.past.config d.past.founders =
    λ i. start (sym k.version i) (sym k.config i) (sym k.founders i) in
    (h.0 ++ es, subst (λ (x : ClusterState). Reaches x (h.0 ++ es) d) same whole, rw (k.version, k.config, k.founders) h.2)

pub history_next : (c d : ClusterState) (e : ClusterEvent) (told : ClusterStep) → IsHistory c → Follows c e told d → IsHistory d
history_next c d e told h f = history_run (e ∷ []) c d h (reaches_one c d e told f)
