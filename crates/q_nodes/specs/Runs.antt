-- What a run of a script writes, by how it ends.
use Rattle.std.specs.Prelude.{◌≡◌, ◌⊎◌, ℕ, zero, suc, ◌+◌, ◌≤◌, ◌&&◌, Bool, not, if◌then◌else◌, List, [], ◌∷◌, ◌++◌, Option, Some, None, Result, Ok, Err, IsUtf8}
use Rattle.std.specs.List.{AllZip}
use Rattle.std.specs.Io.KnownBytes.{Appends}
use Rattle.reasons.specs.declared.Reason.TheVariants.{OutOfMemory}
use Rattle.q_book.specs.State.{BookState}
use Rattle.q_outside.specs.declared.files.FileFault.{FileFault}
use Rattle.q_gather.specs.Gather.{AreRefused, GathersBooks}
use Rattle.q_gather.specs.declared.fault.GatherFault.{GatherFault}
use Rattle.q_history.specs.Calls.{IsHistory}
use Rattle.q_history.specs.Headline.{ClusterState}
use Rattle.q_told.specs.Line.{TakesPart}
use Rattle.q_told.specs.Refusal.{refusal_of}
use Rattle.q_told.specs.declared.refusal.Refusal.TheVariants as refusal
use Rattle.q_outside.specs.Counts.{one_more}
use Rattle.q_nodes.specs.Books.{AreBooksOf}
use Rattle.q_book.specs.Replays.{IsOther}
use Rattle.q_nodes.specs.Faults.{bad_founders, of_gather, reason}
use Rattle.q_nodes.specs.Lines.{IsNode, IsTold, IsToldApart, Lacks, is_clean, refused_line, tally_of, texts_of}
use Rattle.q_nodes.specs.Scripts.{IsClusterScript, IsRefused}
use Rattle.q_nodes.specs.declared.fault.ClusterRunFault.{ClusterRunFault}
use Rattle.q_nodes.specs.declared.fault.ClusterRunFault.TheVariants.{BadCount, TransportFailed, Script}
use Rattle.q_nodes.specs.declared.report.Report.{Report}
use Rattle.q_nodes.specs.declared.report.Tally.{Tally}
use Rattle.q_nodes.specs.declared.ending.ClusterEnding.{ClusterEnding}
use Rattle.q_nodes.specs.declared.ending.ClusterEnding.TheVariants as ending
use Rattle.q_nodes.specs.declared.script.ClusterScript.{ClusterScript}

-- ---- the cluster of a run

-- the ids 1 to this number
abbrev pub ids_to : ℕ → List ℕ
ids_to zero = []
ids_to (suc known) = ids_to known ++ (known + 1) ∷ []

-- the cluster has the fractions of the script, and its founders are the script's nodes
pub record IsFoundedBy (script : ClusterScript) (c : ClusterState) : Type 0 where
  pub config : c.past.config ≡ script.config
  pub founders : c.past.founders ≡ ids_to script.nodes

-- the cluster is the script's: a history of its founders, into which these books gather
pub record IsClusterOf (script : ClusterScript) (books : List BookState) (c : ClusterState) : Type 0 where
  pub history : IsHistory c
  pub founded : IsFoundedBy script c
  pub gathers : GathersBooks books c

-- ---- what is told

-- the text is what the lines tell of one cluster, which is the script's, and into which these books gather
pub record TellsAll (script : ClusterScript) (books : List BookState) (tally : Tally) (text : List ℕ) : Type 0 where
  pub cluster : ClusterState
  pub is_cluster : IsClusterOf script books cluster
  pub reports : List Report
  pub told : AllZip (IsTold script.nodes cluster) script.lines.items reports
  pub says : text ≡ texts_of reports
  pub counts : tally ≡ tally_of reports

-- why there is no such cluster: the books do not gather; or they gather into a cluster of other fractions or founders,
-- or into one that lacks what the call of a line came to
abbrev pub IsUngathered : ClusterScript → List BookState → ClusterRunFault → Type 0
IsUngathered script books f =
    ((g : GatherFault) × AreRefused books g × (f ≡ of_gather g))
    ⊎ ((c : ClusterState) × GathersBooks books c × (f ≡ bad_founders)
    × ((IsFoundedBy script c → ⊥) ⊎ Lacks script.nodes c script.lines.items))

-- the text is what the lines tell of nodes whose books make no cluster of the script
pub record TellsApart (script : ClusterScript) (books : List BookState) (f : ClusterRunFault) (text : List ℕ) : Type 0 where
  pub why : IsUngathered script books f
  pub reports : List Report
  pub told : AllZip (IsToldApart script.nodes books) script.lines.items reports
  pub says : text ≡ texts_of reports

-- What is to be printed: what the lines tell of the cluster of these books; or of nodes whose books make none, where
-- this refusal comes behind it.
abbrev pub IsTelling : ClusterScript → List BookState → Tally → Option ClusterRunFault → List ℕ → Type 0
IsTelling script books tally None text = TellsAll script books tally text
IsTelling script books tally (Some f) text = TellsApart script books f text

-- the same of the nodes' books
pub record IsTellingOfNodes (script : ClusterScript) (tally : Tally) (refusal : Option ClusterRunFault) (text : List ℕ) : Type 0 where
  pub books : List BookState
  pub are_books : AreBooksOf script.nodes books
  pub tells : IsTelling script books tally refusal text

-- ---- how a run ends

-- what a writer holds before and after a run that ends so
abbrev pub Writing : Type 1
Writing = ClusterEnding → Option (List ℕ) → Option (List ℕ) → Type 0

-- the exit status; a strict run wants that no line was refused or is unanswered
abbrev pub status_of : Bool → ClusterEnding → ℕ
status_of strict (ending.Gathered tally) = if strict && not (is_clean tally) then 1 else 0
status_of strict (ending.Refused f) = 1
status_of strict ending.Unwritten = 1

-- How many calls of the writer failed so far, of which this many failed before the run: one more where it gave up, and
-- else as many.
abbrev pub failures_after : ClusterEnding → ℕ → ℕ
failures_after ending.Unwritten before = one_more before
failures_after e before = before

-- a writer took a text that is P
abbrev pub Prints : (List ℕ → Type 0) → Option (List ℕ) → Option (List ℕ) → Type 0
Prints P before after = (text : List ℕ) × P text × Appends before after text

-- this refusal is all that is written; or the writer failed
abbrev pub IsRefusedAlone : ClusterRunFault → Writing
IsRefusedAlone f (ending.Gathered tally) before after = ⊥
IsRefusedAlone f (ending.Refused g) before after = (g ≡ f) × Appends before after (refused_line f)
IsRefusedAlone f ending.Unwritten before after = TakesPart before after

-- the lock of a node kept the book of another: none does, but no contract of a lock says so
pub record IsAstray (nodes : ℕ) : Type 0 where
  pub node : ℕ
  pub is_node : IsNode nodes node
  pub book : BookState
  pub other : IsOther node book

-- Why no line of a script of so many nodes is told: memory ran out, or a thread was not started; there are not 1 to 16
-- nodes; or a lock kept the book of another node.
abbrev pub IsUntold : ℕ → ClusterRunFault → Type 0
IsUntold nodes f =
    (reason f ≡ OutOfMemory)
    ⊎ (((f ≡ BadCount) × ¬ ((1 ≤ nodes) × (nodes ≤ 16)))
    ⊎ ((f ≡ bad_founders) × IsAstray nodes))

-- the text is what the lines tell of nodes whose books make no cluster of the script, and the refusal behind it
pub record TellsRefusal (script : ClusterScript) (f : ClusterRunFault) (text : List ℕ) : Type 0 where
  pub books : List BookState
  pub are_books : AreBooksOf script.nodes books
  pub told : List ℕ
  pub apart : TellsApart script books f told
  pub says : text ≡ told ++ refused_line f

-- the text is what the lines tell of the script's cluster, into which the nodes' books gather
pub record TellsGathered (script : ClusterScript) (tally : Tally) (text : List ℕ) : Type 0 where
  pub books : List BookState
  pub are_books : AreBooksOf script.nodes books
  pub tells : TellsAll script books tally text

-- What the lines tell of the script's cluster is written; or a refusal, alone or behind what they tell of nodes whose
-- books make none; or the writer failed.
abbrev pub IsWritten : ClusterScript → Writing
IsWritten script (ending.Gathered tally) before after = Prints (TellsGathered script tally) before after
IsWritten script (ending.Refused f) before after =
    (IsUntold script.nodes f × Appends before after (refused_line f)) ⊎ Prints (TellsRefusal script f) before after
IsWritten script ending.Unwritten before after = TakesPart before after

-- the same of the script that a text spells, or that there is no socket for a node; or the text is refused
abbrev pub IsWrittenOf : List ℕ → Writing
IsWrittenOf source e before after =
    ((script : ClusterScript) × IsClusterScript source script
    × (IsWritten script e before after ⊎ IsRefusedAlone TransportFailed e before after))
    ⊎ ((f : ClusterRunFault) × IsRefused source f × IsRefusedAlone f e before after)

-- the same of bytes that are a text; or they are none
abbrev pub IsWrittenBytes : List ℕ → Writing
IsWrittenBytes source e before after =
    IsWrittenOf source e before after ⊎ (¬ (IsUtf8 source) × IsRefusedAlone (Script refusal.FileFailed) e before after)

-- the same of a file, whose bytes are the source; or the file fails, and there is no source
abbrev pub IsWrittenFile : {F : Type 0} → (F → List ℕ → Result (List ℕ) FileFault → F → Type 0) → List ℕ → F → F → List ℕ → Writing
IsWrittenFile reads name old new source e before after =
    (reads old name (Ok source) new × IsWrittenBytes source e before after)
    ⊎ ((fault : FileFault) × reads old name (Err fault) new × (source ≡ []) × IsRefusedAlone (Script (refusal_of fault)) e before after)
