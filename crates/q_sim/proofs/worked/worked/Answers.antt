-- worked: what the definitions say of deliveries, refused lines and scripts, over files in memory.
use Rattle.std.proofs.Common.{◌≡◌, ◌≢◌, ℕ, List, ◌∷◌, [], Some, Result, Ok, Err, ◌+◌, ◌++◌, append-nil, true≢false, ap, sym, ◌∙◌, inl, inr, subst}
use Rattle.std.specs.FinSet as set
use Rattle.q_outside.specs.Memory.{Writes}
use Rattle.q_outside.specs.declared.memory_files.MemoryFiles.{MemoryFiles as Memory}
use Rattle.q_desk.proofs.Accepted.{no_refusal, same_answer}
use Rattle.reasons.specs.declared.Reason.{Reason}
use Rattle.reasons.specs.declared.Reason.TheVariants.{OutOfMemory}
use Rattle.q_session.specs.declared.ran.Ran.{Ran}
use Rattle.q_history.specs.Calls.{Takes}
use Rattle.q_history.specs.Clusters.{stepped}
use Rattle.q_history.specs.Headline.{ClusterState}
use Rattle.q_history.specs.declared.event.ClusterStep.{ClusterStep}
use Rattle.q_history.specs.declared.event.ClusterEvent.{ClusterEvent}
use Rattle.q_history.specs.declared.event.ClusterEvent.TheVariants as event
use Rattle.q_script.specs.declared.line.ScriptLine.{ScriptLine}
use Rattle.q_sim.specs.Delivered.{Deliveries, pair_cmp}
use Rattle.q_sim.specs.Simulates.{Acts, LeavesFiles, Plays, SavesAny, SimState, Tries, at_next_line, event_of}
use Rattle.q_sim.specs.Truths.{IsTrueAnswer}
use Rattle.q_sim.proofs.Pairs.{in_itself, pair_cmp_total}
use Rattle.q_sim.proofs.Performing.{does_event}
use Rattle.q_sim.proofs.worked.worked.Goals as goal

pub returns-clause-delivered : goal.returns-clause-delivered
returns-clause-delivered c = set.contains-insert pair_cmp_total set.empty (7, 3) (7, 3)

pub returns-clause-to_another_node : goal.returns-clause-to_another_node
returns-clause-to_another_node c = set.contains-insert pair_cmp_total set.empty (7, 3) (7, 0) ∙ set.contains-empty pair_cmp (7, 0)

pub returns-clause-one_is_tried : goal.returns-clause-one_is_tried
returns-clause-one_is_tried c = λ s t awaits h. elim h [
  | inl none ↦ absurd (none.0 7 3 awaits)
  | inr (inl short) ↦ let e = short.2 in absurd (cc)
  | inr (inr d) ↦ (d.0, d.1, subst (λ (x : SimState). Tries s d.0 d.1 x) (sym d.5.0) d.4)
]

pub returns-clause-never_silent : goal.returns-clause-never_silent
returns-clause-never_silent c = λ s awaits h. elim h [
  | inl none ↦ absurd (none.0 7 3 awaits)
  | inr (inl short) ↦ let e = short.2 in absurd (cc)
  | inr (inr d) ↦ absurd (true≢false (
      sym (in_itself s.delivered (d.0, d.1))
      ∙ ap (λ (x : Deliveries). set.contains x (d.0, d.1)) (sym d.4.delivered ∙ ap (λ (x : SimState). x.delivered) (sym d.5.0))
      ∙ d.3.awaits.left))
]

-- an accepted event leads to one cluster
same_cluster : (r : Ran) (s : SimState) (said : ClusterStep) (d t : ClusterState) (result : Result ClusterStep Reason)
    → ((ran : Ran) → stepped ran s.cluster (event.Deliver 7 3) ≡ Ok (said, d)) → result ≢ Err OutOfMemory → Takes s.cluster (event.Deliver 7 3) t result → t ≡ d
same_cluster r s said d t (Ok told) is loud takes = ap (λ (x : ClusterStep × ClusterState). x.1) (same_answer _ (said, d) (sym takes.stepped ∙ is takes.ran))
same_cluster r s said d t (Err f) is loud takes = absurd (no_refusal f (said, d) (sym (takes.1 (λ e. loud (ap Err e)) r) ∙ is r))

pub returns-clause-tried_is_taken : goal.returns-clause-tried_is_taken
returns-clause-tried_is_taken c = λ s t said d is h. same_cluster (record { acc = 0; steps = 0 }) s said d t.cluster h.result is h.answered h.takes

pub returns-clause-want_of_memory_is_no_try : goal.returns-clause-want_of_memory_is_no_try
returns-clause-want_of_memory_is_no_try c = λ s t h is. h.answered is

pub returns-clause-want_of_memory_is_a_refusal : goal.returns-clause-want_of_memory_is_a_refusal
returns-clause-want_of_memory_is_a_refusal c = λ s t text h. ap (λ (x : SimState). x.faults) h.1

pub returns-clause-refused_delivery : goal.returns-clause-refused_delivery
returns-clause-refused_delivery c = λ s t h. h.faults

pub returns-clause-first_event : goal.returns-clause-first_event
returns-clause-first_event c = λ f s h. ap (λ n. n + 1) h.line

-- an event that is a line's
event_taken : (l : ScriptLine) (e : ClusterEvent) (s t : SimState) (before after : Memory) (text : List ℕ) → event_of l ≡ Some e
    → Plays (Writes {X = Unit {0}}) (l ∷ []) s before text t after → (result : Result ClusterStep Reason) × Takes s.cluster e t.cluster result
event_taken l e s t before after text is h =
    let does : LeavesFiles (Acts e) (at_next_line s) before h.2 h.0 h.1 =
    subst (λ (d : SimState → Memory → List ℕ → SimState → Memory → Type 0). d (at_next_line s) before h.2 h.0 h.1)
    (does_event (Writes {X = Unit {0}}) l e is) h.4 in
    (does.0.result, subst (λ (x : SimState). Takes s.cluster e x.cluster does.0.result) (sym h.5.0) does.0.takes)

pub returns-clause-event : goal.returns-clause-event
returns-clause-event c = event_taken

pub returns-clause-no_such_node : goal.returns-clause-no_such_node
returns-clause-no_such_node c = λ name text s t before after none h.
    (subst (λ o. SavesAny (Writes {X = Unit {0}}) o name s before text t after) none h).1

pub returns-clause-file_fails : goal.returns-clause-file_fails
returns-clause-file_fails c = λ book name text s t before after fails h. elim h [
  | inl written ↦ absurd (true≢false (sym fails ∙ written.0.0.0))
  | inr failed ↦ ap (λ (x : SimState). x.unsaved) failed.1
]

pub returns-clause-unrefused_run : goal.returns-clause-unrefused_run
returns-clause-unrefused_run c = λ cluster text h. elim h.2 [
  | inl answer ↦ subst (IsTrueAnswer cluster) (sym (h.4 ∙ ap (λ rest. h.0 ++ rest) h.3 ∙ append-nil h.0)) answer
  | inr refused ↦ absurd (true≢false (sym refused.2))
]
