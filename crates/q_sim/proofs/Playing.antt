-- Lines in turn.
use Rattle.std.proofs.Common.{ℕ, List, [], ◌∷◌, ◌++◌, refl, sym, ap, ◌∙◌, subst, append_assoc, append-nil}
use Rattle.q_script.specs.declared.line.ScriptLine.{ScriptLine}
use Rattle.q_sim.specs.Simulates.{SimState, Writing, at_next_line, Does, Plays}

-- one more line
pub one_more : {F : Type 0} (writes : Writing F) (ls : List ScriptLine) (s : SimState) (before : F) (text : List ℕ) (t : SimState) (files : F)
    (line : ScriptLine) (more : List ℕ) (u : SimState) (after : F) → Plays writes ls s before text t files
    → Does writes line (at_next_line t) files more u after → Plays writes (ls ++ line ∷ []) s before (text ++ more) u after
one_more {F} writes [] s before text t files line more u after p d = (
  u,
  after,
  more,
  [],
  subst (λ (f : F). Does writes line (at_next_line s) f more u after) p.1
      (subst (λ (x : SimState). Does writes line (at_next_line x) files more u after) p.0 d),
  (refl, refl, refl),
  ap (λ x. x ++ more) p.2 ∙ sym (append-nil more),
)
one_more writes (l ∷ ls) s before text t files line more u after p d = (
  p.0,
  p.1,
  p.2,
  p.3 ++ more,
  p.4,
  one_more writes ls p.0 p.1 p.3 t files line more u after p.5 d,
  ap (λ x. x ++ more) p.6 ∙ append_assoc p.2 p.3 more,
)
