-- What is told of books that gather, and of books that do not.
use Rattle.std.proofs.Common.{◌≡◌, List, Option, None, sym, subst, inl, inr, IfOk, Result, Ok, Err, string_bytes}
use Rattle.std.specs.List.{AllZip}
use Rattle.q_book.specs.State.{BookState}
use Rattle.q_gather.specs.Gather.{GathersBooks}
use Rattle.q_history.specs.Headline.{ClusterState}
use Rattle.q_nodes.specs.Faults.{bad_founders}
use Rattle.q_nodes.specs.Lines.{IsTold, Lacks, tally_of, texts_of}
use Rattle.q_nodes.specs.Runs.{IsClusterOf, IsFoundedBy, IsTelling, IsUngathered}
use Rattle.q_nodes.specs.declared.fault.ClusterRunFault.{ClusterRunFault}
use Rattle.q_nodes.specs.declared.report.Report.{Report}
use Rattle.q_nodes.specs.declared.script.ClusterScript.{ClusterScript}
use Rattle.q_nodes.specs.declared.telling.Telling.{Telling}

-- ---- what is told

module _ (script : ClusterScript) (books : List BookState) (c : ClusterState) (reports : List Report)
    (of : IsClusterOf script books c) (told : AllZip (IsTold script.nodes c) script.lines.items reports) where
  told_whole : (t : Telling) → string_bytes t.text ≡ texts_of reports → t.tally ≡ tally_of reports → t.refusal ≡ None
      → IsTelling script books t.tally t.refusal (string_bytes t.text)
  told_whole t says counts none =
      subst (λ (r : Option ClusterRunFault). IsTelling script books t.tally r (string_bytes t.text)) (sym none)
      (record { cluster = c; is_cluster = of; reports = reports; told = told; says = says; counts = counts })

  -- what is told of the cluster, where there was memory for it
  pub whole_told : {E : Type 0} (r : Result Telling E) → IfOk r (λ t. string_bytes t.text ≡ texts_of reports) → IfOk r (λ t. t.tally ≡ tally_of reports)
      → IfOk r (λ t. t.refusal ≡ None) → IfOk r (λ t. IsTelling script books t.tally t.refusal (string_bytes t.text))
  whole_told (Ok t) says counts none = told_whole t says counts none
  whole_told (Err e) says counts none = tt

-- ---- why there is no cluster of the script

pub not_founded : (script : ClusterScript) (books : List BookState) (c : ClusterState) (f : ClusterRunFault) → GathersBooks books c → f ≡ bad_founders
    → (IsFoundedBy script c → ⊥) → IsUngathered script books f
not_founded script books c f gathers is other = inr (c, gathers, is, inl other)

pub not_there : (script : ClusterScript) (books : List BookState) (c : ClusterState) (f : ClusterRunFault) → GathersBooks books c → f ≡ bad_founders
    → Lacks script.nodes c script.lines.items → IsUngathered script books f
not_there script books c f gathers is lacks = inr (c, gathers, is, inr lacks)
