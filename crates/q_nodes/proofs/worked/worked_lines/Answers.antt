-- worked_lines: 81 is told just where there is no such node, and no answer of another program.
use Rattle.std.proofs.Common.{◌≡◌, ◌∙◌, ℕ, Vec, Global, inl, inr, sym, ap, Err}
use Rattle.reasons.specs.declared.Reason.{Reason}
use Rattle.reasons.specs.declared.Reason.TheVariants.{NoSuchNode, OutOfMemory}
use Rattle.q_history.specs.Headline.{ClusterState}
use Rattle.q_script.specs.declared.call_line.CallLine.TheVariants as line
use Rattle.q_nodes.specs.Faults.{no_such_node, of_fault}
use Rattle.q_nodes.specs.Lines.{IsNode, IsTold}
use Rattle.q_nodes.specs.declared.fault.ClusterRunFault.{ClusterRunFault}
use Rattle.q_nodes.specs.declared.outcome.Outcome.TheVariants as outcome
use Rattle.q_nodes.specs.declared.report.Report.{Report}
use Rattle.q_nodes.specs.declared.report.Report.TheVariants.{Refused, Registered, Stored, Asked}
use Rattle.q_nodes.proofs.NoNode.{store_finds_a_node}
use Rattle.q_nodes.proofs.Untold.{another_program}
use Rattle.q_nodes.proofs.worked.worked_lines.Goals as goal

-- of what a book may refuse, 81 is 81
same_reason : (f : Reason) → no_such_node ≡ of_fault f → NoSuchNode ≡ f
same_reason f e = cc

not_memory : NoSuchNode ≡ OutOfMemory → ⊥
not_memory e = absurd cc

same_refusal : (f g : ClusterRunFault) → outcome.Refused f ≡ outcome.Refused g → f ≡ g
same_refusal f g e = cc

outside : (nodes node : ℕ) (value : Vec ℕ Global) (c : ClusterState) (r : Report) → (IsNode nodes node → ⊥) → IsTold nodes c (line.Store node value) r
    → r ≡ Refused no_such_node
outside nodes node value c (Refused f) none (inl h) = absurd (none h.0)
outside nodes node value c (Refused f) none (inr h) = ap Refused (same_refusal f no_such_node h.1)
outside nodes node value c (Registered id) none h = absurd h
outside nodes node value c (Stored tag ended) none h = absurd (none h.0)
outside nodes node value c (Asked by query answer) none h = absurd h

inside : (nodes node : ℕ) (value : Vec ℕ Global) (c : ClusterState) → IsNode nodes node → IsTold nodes c (line.Store node value) (Refused no_such_node) → ⊥
inside nodes node value c there (inl h) =
    let same = same_reason h.1.1 h.1.3 in
    store_finds_a_node h.1.0 value.items (h.1.4 (λ e. not_memory (same ∙ e)) ∙ ap Err (sym same))
inside nodes node value c there (inr h) = h.0 there

pub returns-clause-outside : goal.returns-clause-outside
returns-clause-outside c = outside

pub returns-clause-inside : goal.returns-clause-inside
returns-clause-inside c = inside

pub returns-clause-another_program : goal.returns-clause-another_program
returns-clause-another_program c = another_program
