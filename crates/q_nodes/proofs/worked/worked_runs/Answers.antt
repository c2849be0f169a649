-- A text that is no script ends with no gathered cluster.
use Rattle.std.proofs.Common.{ℕ, List, Option, inl, inr}
use Rattle.q_nodes.specs.Runs.{IsWrittenOf}
use Rattle.q_nodes.specs.Scripts.{IsClusterScript}
use Rattle.q_nodes.specs.declared.ending.ClusterEnding.TheVariants as ending
use Rattle.q_nodes.specs.declared.report.Tally.{Tally}
use Rattle.q_nodes.specs.declared.script.ClusterScript.{ClusterScript}
use Rattle.q_nodes.proofs.worked.worked_runs.Goals as goal

no_script : (source : List ℕ) (t : Tally) (before after : Option (List ℕ)) → ((s : ClusterScript) → IsClusterScript source s → ⊥)
    → IsWrittenOf source (ending.Gathered t) before after → ⊥
no_script source t before after never (inl p) = never p.0 p.1
no_script source t before after never (inr p) = p.2

pub returns-clause-no_script : goal.returns-clause-no_script
returns-clause-no_script c = no_script
