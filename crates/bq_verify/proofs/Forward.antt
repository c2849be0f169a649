-- Where a text's flow is legal, each edge leads to an instruction behind its unit.
use Rattle.std.proofs.Common.{◌≡◌, ℕ, ◌<◌, ◌≤◌, List, Some, subst}
use Rattle.std.specs.Prelude.{pos}
use Rattle.bq_insn.specs.Slots.{units, insn_at}
use Rattle.bq_insn.specs.declared.insn.Insn.{Insn}
use Rattle.bq_flow.specs.Paths.{Among, IsLegalFlow}
use Rattle.bq_state.specs.Kinds.{StateKinds}
use Rattle.bq_state.specs.Edges.{edges}
use Rattle.bq_sound.proofs.Along.{along_successors}

-- an instruction behind the unit
pub record Leads (text : List Insn) (unit next : ℕ) : Type 0 where
  pub forward : unit < next
  pub insn : Insn
  pub begins : insn_at text next ≡ Some insn

-- all these edges lead to one
abbrev pub AllLead : List Insn → ℕ → List (ℕ × StateKinds) → Type 0
AllLead text unit es = (e : ℕ × StateKinds) → Among e es → Leads text unit e.0

pub edges_lead : (text : List Insn) (unit : ℕ) (i : Insn) (after : StateKinds) → units text ≤ 4096 → IsLegalFlow text → insn_at text unit ≡ Some i
    → AllLead text unit (edges unit i after)
edges_lead text unit i after few legal there e among =
    let h = legal.each unit i (pos e.0) there (along_successors text unit i after e few legal there among) in
    let is : pos e.0 ≡ pos h.next = h.is in
    let same : h.next ≡ e.0 = cc in
    record { forward = subst (λ n. unit < n) same h.forward; insn = h.insn; begins = subst (λ n. insn_at text n ≡ Some h.insn) same h.begins }
