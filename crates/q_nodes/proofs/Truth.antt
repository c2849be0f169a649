-- The cluster of the books of a run, and what is true of the answers that it recorded.
use Rattle.std.proofs.Common.{◌≡◌, ℕ, List, Option, Some, sym, ap, subst}
use Rattle.std.specs.Io.KnownBytes.{Appends}
use Rattle.sc_members.specs.Members.{Config}
use Rattle.sc_msg.specs.declared.version.Version.{Version}
use Rattle.sc_view.specs.Views.{ViewMap}
use Rattle.q_session.specs.declared.query.Phase.{Phase}
use Rattle.q_session.specs.declared.query.Phase.TheVariants.{Collecting, Ready, Running, Answered}
use Rattle.q_session.specs.declared.query.Query.{Query}
use Rattle.q_session.specs.declared.ran.Ran.{Ran}
use Rattle.q_desk.specs.Desks.{answer_in}
use Rattle.q_book.specs.State.{BookState}
use Rattle.q_history.specs.declared.event.ClusterEvent.{ClusterEvent}
use Rattle.q_history.specs.Calls.{IsHistory, Reaches}
use Rattle.q_history.specs.Clusters.{start}
use Rattle.q_history.specs.Headline as headline
use Rattle.q_history.specs.Headline.{ClusterState}
use Rattle.q_history.proofs.Lists.{same_Some, none-some}
use Rattle.q_gather.specs.Gather.{GathersBooks}
use Rattle.q_script.specs.declared.call_line.CallLine.TheVariants as line
use Rattle.q_nodes.specs.Headline.{AnswersAreTrue, IsTrueAnswer}
use Rattle.q_table.specs.Programs.{program_id}
use Rattle.q_nodes.specs.Lines.{IsQueryOf, IsTold}
use Rattle.q_nodes.specs.Runs.{IsClusterOf, IsFoundedBy, IsWritten}
use Rattle.q_nodes.specs.declared.report.Report.TheVariants.{Asked}
use Rattle.q_nodes.specs.declared.report.Tally.{Tally}
use Rattle.q_nodes.specs.declared.ending.ClusterEnding.TheVariants as ending
use Rattle.q_nodes.specs.declared.script.ClusterScript.{ClusterScript}
use Rattle.q_nodes.proofs.Turns.{turn_at}
use Rattle.std.proofs.lemmas.Slice.Zip.{AllZip-long}

-- ---- the cluster

-- books that gather into a cluster of the script's founders gather into a history
pub cluster_of_books : (script : ClusterScript) (c : ClusterState) (books : List BookState) → GathersBooks books c → IsFoundedBy script c
    → IsClusterOf script books c
cluster_of_books script c books gathers founded = record { history = gathers.gathered.history; founded = founded; gathers = gathers }

-- ---- its answers

answered_by : (p : Phase) (ran : Ran) → Some ran ≡ answer_in p → (view : ViewMap) × (p ≡ Answered view ran)
answered_by Collecting ran e = absurd (none-some ran (sym e))
answered_by (Ready view) ran e = absurd (none-some ran (sym e))
answered_by (Running view) ran e = absurd (none-some ran (sym e))
answered_by (Answered view r) ran e = (view, ap (Answered view) (same_Some r ran (sym e)))

-- each recorded answer of every history is true
abbrev pub EveryAnswer : Type 0
EveryAnswer =
    (version : Version) (config : Config) (founders : List ℕ) (events : List ClusterEvent) (c : ClusterState)
    → Reaches (start version config founders) events c → headline.AnswersAreTrue c

true_answer : EveryAnswer → (c : ClusterState) (node query program start : ℕ) (q : Query) (ran : Ran) → IsHistory c
    → IsQueryOf c node query program start q → Some ran ≡ answer_in q.phase → IsTrueAnswer c node query program start ran
true_answer law c node query program start q ran history is e =
    let (view, recorded) = answered_by q.phase ran e in
    record {
      asked = q;
      names = is.names;
      begins = is.begins;
      view = view;
      answer = record {
        book = is.book;
        at = is.at;
        numbered = is.numbered;
        recorded = recorded;
        is_true = law c.version c.past.config c.past.founders history.0 c history.1 node query is.book q view ran is.at is.numbered recorded;
      };
    }

told_answer : EveryAnswer → (nodes : ℕ) (c : ClusterState) (node program start by query : ℕ) (ran : Ran) → IsHistory c
    → IsTold nodes c (line.Ask node program start) (Asked by query (Some ran)) → (by ≡ node) × IsTrueAnswer c node query (program_id program) start ran
told_answer law nodes c node program start by query ran history told =
    let (there, same, found) = told in
    (same, true_answer law c node query (program_id program) start found.0 ran history found.1 found.2)

pub all_true : EveryAnswer → (script : ClusterScript) (tally : Tally) (before after : Option (List ℕ))
    → IsWritten script (ending.Gathered tally) before after → AnswersAreTrue script before after
all_true law script tally before after written =
    let (text, gathered, appends) = written in
    let told = gathered.tells in
    record {
      books = gathered.books;
      are_books = gathered.are_books;
      cluster = told.cluster;
      is_cluster = told.is_cluster;
      reports = told.reports;
      many = AllZip-long (IsTold script.nodes told.cluster) script.lines.items told.reports told.told;
      written = subst (Appends before after) told.says appends;
      each = λ k node program start by query ran at_line at_report.
          told_answer law script.nodes told.cluster node program start by query ran told.is_cluster.history
          (turn_at (IsTold script.nodes told.cluster) script.lines.items told.reports k (line.Ask node program start) (Asked by query (Some ran))
          told.told at_line at_report);
    }
