-- What each `run` line prints is recorded in the last cluster, and true.
use Rattle.std.proofs.Common.{◌≡◌, inl, inr, ℕ, Bool, true, List, [], ◌∷◌, ◌++◌, refl, sym, ap, ◌∙◌, subst, append-nil, slice_get, Result, Ok, Err}
use Rattle.sc_members.specs.Members.{Config, config_of}
use Rattle.sc_msg.specs.declared.version.Version.{Version}
use Rattle.sc_msg.specs.declared.version.Version.TheVariants.{Second}
use Rattle.sc_node.specs.Nodes.{are_founders}
use Rattle.q_script.specs.declared.line.ScriptLine.{ScriptLine}
use Rattle.q_script.specs.declared.line.ScriptLine.TheVariants.{Run}
use Rattle.q_script.specs.declared.script.Script.{Script}
use Rattle.q_history.specs.declared.event.ClusterEvent.{ClusterEvent}
use Rattle.q_history.specs.declared.event.ClusterEvent.TheVariants as event
use Rattle.q_history.specs.declared.event.ClusterStep.{ClusterStep}
use Rattle.q_history.specs.declared.event.EventAnswer.{EventAnswer}
use Rattle.q_history.specs.declared.event.EventAnswer.TheVariants as told
use Rattle.reasons.specs.declared.Reason.{Reason}
use Rattle.q_history.specs.Headline.{ClusterState, AnswersAreTrue, AnswersStay}
use Rattle.q_history.specs.Calls.{Reaches, Takes}
use Rattle.q_history.specs.Clusters.{start}
use Rattle.q_told.specs.declared.refusal.Refusal.TheVariants.{Cluster}
use Rattle.q_told.specs.Printing.{told_lines, message_lines, printed}
use Rattle.q_sim.specs.Simulates.{SimState, Writing, at_next_line, is_any, or_refused, Does, Plays, Simulates, founders_of}
use Rattle.q_sim.specs.Truths.{IsTrueAnswer, IsTrueLine, AreTrueLines}
use Rattle.q_sim.proofs.Leading.{any_with, leads_itself, leads_on, IsLed, acts_led, does_led, plays_led, founded-ok}
use Rattle.q_sim.proofs.Recording.{IsRecorded, finish_recorded}
use Rattle.q_cluster.proofs.Histories.{Leads}

-- what is printed of it is its line alone
only_line : (c : ClusterState) (stepped : ClusterStep) (t : EventAnswer) → stepped.told ≡ t → stepped.sent.count ≡ 0 → printed c (Ok stepped) ≡ told_lines t
only_line c stepped t tells silent =
    ap (λ n. told_lines stepped.told ++ message_lines c.past.sent stepped.sent.first n) silent
    ∙ append-nil (told_lines stepped.told)
    ∙ ap told_lines tells

module _ (last : ClusterState) (answers : AnswersAreTrue last) where
  recorded_true : (c : ClusterState) (stepped : ClusterStep) (text : List ℕ) → IsRecorded stepped c → AnswersStay c last
      → text ≡ printed c (Ok stepped) → IsTrueAnswer last text
  recorded_true c stepped text r stays is =
      let kept = stays r.node r.query r.book r.asked r.view r.ran r.at r.number r.answered in
      record {
        node = r.node;
        query = r.query;
        ran = r.ran;
        line = is ∙ only_line c stepped (told.Finished (record { node = r.node; query = r.query; ran = r.ran })) r.tells r.silent;
        asked = r.asked;
        view = r.view;
        answer = record {
          book = kept.0;
          at = kept.1;
          numbered = kept.2;
          recorded = r.answered;
          is_true = answers r.node r.query kept.0 r.asked r.view r.ran kept.1 kept.2 r.answered;
        };
      }

  ran_true : (c d : ClusterState) (job : ℕ) (text : List ℕ) (refused : Bool) (r : Result ClusterStep Reason) → Takes c (event.Finish job) d r
      → AnswersStay d last → ((f : Reason) → r ≡ Err f → refused ≡ true) → text ≡ printed d r → IsTrueLine last refused (Run job) text
  ran_true c d job text refused (Err f) h stays told is = inr (f, is, told f refl)
  ran_true c d job text refused (Ok stepped) h stays told is =
      inl (recorded_true d stepped text (finish_recorded c h.ran (slice_get c.jobs job) (stepped, d) h.stepped) stays is)

-- the answers of each cluster on the way from the first to the last stay
module _ (first : ClusterState) (last : SimState) (answers : AnswersAreTrue last.cluster)
    (stays : (c : ClusterState) → Leads first c → Leads c last.cluster → AnswersStay c last.cluster) where
  line_true : {F : Type 0} (writes : Writing F) (l : ScriptLine) (s : SimState) (before : F) (text : List ℕ) (t : SimState) (after : F) → Leads first s.cluster
      → IsLed t last → Does writes l s before text t after → IsTrueLine last.cluster (is_any last.faults) l text
  line_true writes (Run job) s before text t after h k d =
      let road = leads_on first s.cluster t.cluster h (acts_led (event.Finish job) s text t d.0).leads in
      let faults = λ (r : Result ClusterStep Reason). or_refused s.line r s.faults in
      ran_true last.cluster answers s.cluster t.cluster job text (is_any last.faults) d.0.result d.0.takes (stays t.cluster road k.leads)
      (λ f is. k.refused (ap is_any (d.0.faults ∙ ap faults is) ∙ any_with s.faults s.line (Cluster f))) d.0.says
  line_true writes l s before text t after h k d = tt

  lines_true : {F : Type 0} (writes : Writing F) (ls : List ScriptLine) (s : SimState) (before : F) (text : List ℕ) (after : F) → Leads first s.cluster
      → Plays writes ls s before text last after → AreTrueLines last.cluster (is_any last.faults) ls text
  lines_true writes [] s before text after h p = p.2
  lines_true writes (l ∷ ls) s before text after h p = (
    p.2,
    p.3,
    line_true writes l (at_next_line s) before p.2 p.0 p.1 h (plays_led writes ls p.0 p.1 p.3 last after p.5) p.4,
    lines_true writes ls p.0 p.1 p.3 after (leads_on first s.cluster p.0.cluster h (does_led writes l (at_next_line s) before p.2 p.0 p.1 p.4).leads) p.5,
    p.6,
  )

-- recorded answers stay in every history, so what a script printed is true
pub printed_true : ((version : Version) (config : Config) (founders : List ℕ) (before after : List ClusterEvent) (c later : ClusterState)
    → Reaches (start version config founders) before c → Reaches c after later → AnswersStay c later)
    → {F : Type 0} (writes : Writing F) (script : Script) (before : F) (text : List ℕ) (unsaved refused : Bool) (after : F)
    (s : Simulates writes script before text unsaved refused after) → AreTrueLines s.last.cluster refused script.lines.items text
printed_true stay writes script before text unsaved refused after s =
    let config = config_of script.founding.beta script.founding.gamma in
    let ids = founders_of script.founding in
    let first = start Second config ids in
    let begun = founded-ok Second config ids (are_founders ids) s.first.cluster s.begins.started in
    subst (λ (b : Bool). AreTrueLines s.last.cluster b script.lines.items text) (sym s.shown)
    (lines_true first s.last s.answers (λ c h k. stay Second config ids h.0 k.0 c s.last.cluster h.1 k.1) writes script.lines.items s.first before text after
    (subst (Leads first) begun (leads_itself first)) s.plays)
