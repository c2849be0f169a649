-- A line leaves its number, and the lines are counted; and a fault is told where there is one.
use Rattle.std.proofs.Common.{◌≡◌, inl, inr, ℕ, zero, suc, ◌==◌, Bool, not, List, [], ◌∷◌, length, Option, Some, None, ap, ◌∙◌, string_bytes, arith}
use Rattle.std.proofs.lemmas.Bool.{ne_eqb}
use Rattle.std.specs.Prelude.{Vec, vec_len}
use Rattle.std.specs.declared.alloc.Global.{Global}
use Rattle.q_book.specs.State.{BookState}
use Rattle.q_cluster.specs.Acts.{book_at}
use Rattle.q_script.specs.declared.call_line.CallLine.TheVariants.{Program}
use Rattle.q_script.specs.declared.line.ScriptLine.{ScriptLine}
use Rattle.q_script.specs.declared.line.ScriptLine.TheVariants.{Call, All, Pairs, Journal}
use Rattle.q_told.specs.declared.refusal.RefusedLine.{RefusedLine}
use Rattle.q_sim.specs.Simulates.{SimState, Writing, is_any, DeliversAll, SavesAny, Does}

line_of : (s t : SimState) → t ≡ s → t.line ≡ s.line
line_of s t same = ap (λ (x : SimState). x.line) same

delivers_line : (limit : ℕ) (s : SimState) (text : List ℕ) (t : SimState) → DeliversAll limit s text t → t.line ≡ s.line
delivers_line zero s text t h = line_of s t h.0
delivers_line (suc n) s text t h = elim h [
  | inl none ↦ line_of s t none.1
  | inr (inl wants) ↦ ap (λ (x : SimState). x.line) wants.1
  | inr (inr d) ↦ delivers_line n d.2 text t d.5 ∙ d.4.line
]

saves_line : {F : Type 0} (writes : Writing F) (book : Option BookState) (name : List ℕ) (s : SimState) (before : F) (text : List ℕ) (t : SimState) (after : F)
    → SavesAny writes book name s before text t after → t.line ≡ s.line
saves_line writes None name s before text t after h = ap (λ (x : SimState). x.line) h.0
saves_line writes (Some b) name s before text t after h = elim h [
  | inl written ↦ line_of s t written.1
  | inr failed ↦ ap (λ (x : SimState). x.line) failed.1
]

-- what a line does leaves its number
pub same_line : {F : Type 0} (writes : Writing F) (l : ScriptLine) (s : SimState) (before : F) (text : List ℕ) (t : SimState) (after : F)
    → Does writes l s before text t after → t.line ≡ s.line
same_line writes (Call (Program node code)) s before text t after h = elim h.0 [ inl a ↦ a.2.line | inr r ↦ ap (λ (x : SimState). x.line) r.2 ]
same_line writes (All limit) s before text t after h = delivers_line limit s text t h.0
same_line writes Pairs s before text t after h = line_of s t h.0.1
same_line writes (Journal node file) s before text t after h = saves_line writes (book_at s.cluster node) (string_bytes file) s before text t after h
same_line writes event s before text t after h = h.0.line

any_of : (faults : List RefusedLine) (b : Bool) → b ≡ (length faults == 0) → not b ≡ is_any faults
any_of [] b is = ap not is
any_of (f ∷ fs) b is = ap not (is ∙ ne_eqb (length (f ∷ fs)) 0 (omega arith))

-- some line was refused where there are faults
pub any_told : (faults : Vec RefusedLine Global) (b : Bool) → b ≡ (vec_len faults == 0) → not b ≡ is_any faults.items
any_told faults b is = any_of faults.items b (is ∙ ap (λ n. n == 0) faults.ok.0)
