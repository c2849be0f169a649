-- What is true of the answers that a script prints.
use Rattle.std.specs.Prelude.{◌≡◌, ◌⊎◌, ℕ, Bool, true, List, [], ◌∷◌, ◌++◌}
use Rattle.sc_view.specs.Views.{ViewMap}
use Rattle.q_session.specs.declared.ran.Ran.{Ran}
use Rattle.q_session.specs.declared.query.Query.{Query}
use Rattle.q_script.specs.declared.line.ScriptLine.{ScriptLine}
use Rattle.q_script.specs.declared.line.ScriptLine.TheVariants.{Run}
use Rattle.q_history.specs.Headline.{ClusterState}
use Rattle.q_history.specs.Recorded.{HasTrueAnswer}
use Rattle.q_history.specs.declared.event.EventAnswer.TheVariants as told
use Rattle.reasons.specs.declared.Reason.{Reason}
use Rattle.q_told.specs.declared.refusal.Refusal.TheVariants.{Cluster}
use Rattle.q_told.specs.Printing.{told_lines}
use Rattle.q_told.specs.Refusal.{refusal_line}

-- the text is the `answer` line of a query of this cluster, which has this answer recorded, and the answer is true
pub record IsTrueAnswer (c : ClusterState) (text : List ℕ) : Type 0 where
  pub node : ℕ
  pub query : ℕ
  pub ran : Ran
  pub line : text ≡ told_lines (told.Finished (record { node = node; query = query; ran = ran }))
  pub asked : Query
  pub view : ViewMap
  pub answer : HasTrueAnswer c node query asked view ran

-- What a line of a script printed, where it is told whether a line was refused: a `run` line the line of a true answer,
-- or its refusal, and that is told.
abbrev pub IsTrueLine : ClusterState → Bool → ScriptLine → List ℕ → Type 0
IsTrueLine c refused (Run job) text = IsTrueAnswer c text ⊎ ((f : Reason) × (text ≡ refusal_line (Cluster f)) × (refused ≡ true))
IsTrueLine c refused line text = Unit {0}

-- the text is what these lines printed, one after the other
abbrev pub AreTrueLines : ClusterState → Bool → List ScriptLine → List ℕ → Type 0
AreTrueLines c refused [] text = text ≡ []
AreTrueLines c refused (l ∷ ls) text = (first rest : List ℕ) × IsTrueLine c refused l first × AreTrueLines c refused ls rest × (text ≡ first ++ rest)
