-- What is looked for in the gathered cluster, and what is found of it.
use Rattle.std.specs.Prelude.{◌≡◌, ℕ, List, Option, Some, None, slice_get}
use Rattle.std.specs.List.{AllZip}
use Rattle.sc_world.specs.declared.op.Op.{Op}
use Rattle.sc_world.specs.Records.{Among}
use Rattle.q_book.specs.State.{BookState}
use Rattle.q_history.specs.Headline.{ClusterState}
use Rattle.q_script.specs.declared.call_line.CallLine.{CallLine}
use Rattle.q_nodes.specs.Lines.{Has, IsTold, Lacks}
use Rattle.q_nodes.specs.Runs.{IsClusterOf, IsUngathered}
use Rattle.q_nodes.specs.declared.outcome.Outcome.{Outcome}
use Rattle.q_nodes.specs.declared.report.Report.{Report}
use Rattle.q_nodes.specs.declared.script.ClusterScript.{ClusterScript}
use Rattle.q_nodes.specs.declared.telling.Sought.{Sought}
use Rattle.q_nodes.specs.declared.telling.Sought.TheVariants.{Told, Ungathered}

-- the place of each operation stands under its node and its tag
abbrev pub AreFiled : List Op → (ℕ × ℕ → Option ℕ) → Type 0
AreFiled ops place_of = (k : ℕ) (o : Op) → slice_get ops k ≡ Some o → place_of (o.node, o.tag) ≡ Some k

-- the operation of the node with this tag, of which there is no other
pub record IsOnly (ops : List Op) (node tag : ℕ) (op : Op) : Type 0 where
  pub among : Among op ops
  pub by : op.node ≡ node
  pub tagged : op.tag ≡ tag
  pub only : (o : Op) → Among o ops → o.node ≡ node → o.tag ≡ tag → o ≡ op

-- what is found of the call of a line: what the line tells, or that the cluster lacks what the call came to
abbrev pub Finds : ℕ → ClusterState → CallLine → Outcome → Option Report → Type 0
Finds nodes c l o (Some r) = IsTold nodes c l r
Finds nodes c l o None = Has c l o → ⊥

-- what is found of the calls of lines
abbrev pub FindsAll : ℕ → ClusterState → List CallLine → Option (List Report) → Type 0
FindsAll nodes c ls (Some rs) = AllZip (IsTold nodes c) ls rs
FindsAll nodes c ls None = Lacks nodes c ls

-- what the lines tell of the script's cluster, into which these books gather; or why there is none
abbrev pub IsSought : ClusterScript → List BookState → Sought → Type 0
IsSought script books (Told reports) =
    (c : ClusterState) × IsClusterOf script books c × AllZip (IsTold script.nodes c) script.lines.items reports.items
IsSought script books (Ungathered f) = IsUngathered script books f
