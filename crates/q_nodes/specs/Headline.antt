-- What is true of every answer that is printed.
use Rattle.std.specs.Prelude.{◌≡◌, ℕ, List, length, Option, Some, slice_get}
use Rattle.std.specs.Io.KnownBytes.{Appends}
use Rattle.sc_view.specs.Views.{ViewMap}
use Rattle.q_session.specs.declared.query.Query.{Query}
use Rattle.q_session.specs.declared.ran.Ran.{Ran}
use Rattle.q_book.specs.State.{BookState}
use Rattle.q_history.specs.Headline.{ClusterState}
use Rattle.q_history.specs.Recorded.{HasTrueAnswer}
use Rattle.q_script.specs.declared.call_line.CallLine.TheVariants as line
use Rattle.q_table.specs.Programs.{program_id}
use Rattle.q_nodes.specs.Books.{AreBooksOf}
use Rattle.q_nodes.specs.Lines.{texts_of}
use Rattle.q_nodes.specs.Runs.{IsClusterOf}
use Rattle.q_nodes.specs.declared.report.Report.{Report}
use Rattle.q_nodes.specs.declared.report.Report.TheVariants.{Asked}
use Rattle.q_nodes.specs.declared.script.ClusterScript.{ClusterScript}

-- The cluster recorded this answer of the query of this number at the node, which asks for this program from this
-- start; and it is true.
pub record IsTrueAnswer (c : ClusterState) (node query program start : ℕ) (ran : Ran) : Type 0 where
  pub asked : Query
  pub names : asked.program ≡ program
  pub begins : asked.start ≡ start
  pub view : ViewMap
  pub answer : HasTrueAnswer c node query asked view ran

-- The text that was written is that of reports of the script's lines, in turn; and there is one cluster of the script,
-- into which the books of its nodes gather, and which recorded each answer that an `ask` line told, for the query that
-- this line told, and it is true.
pub record AnswersAreTrue (script : ClusterScript) (before after : Option (List ℕ)) : Type 0 where
  pub books : List BookState
  pub are_books : AreBooksOf script.nodes books
  pub cluster : ClusterState
  pub is_cluster : IsClusterOf script books cluster
  pub reports : List Report
  pub many : length reports ≡ length script.lines.items
  pub written : Appends before after (texts_of reports)
  pub each : (k node program start by query : ℕ) (ran : Ran) → slice_get script.lines.items k ≡ Some (line.Ask node program start)
      → slice_get reports k ≡ Some (Asked by query (Some ran)) → (by ≡ node) × IsTrueAnswer cluster node query (program_id program) start ran
