-- What one event and a list of events do to a cluster.
use Rattle.std.specs.Prelude.{◌≡◌, ◌≢◌, ℕ, List, [], ◌∷◌, take, slice_get, IfSome, Some, Result, Ok, Err}
use Rattle.q_session.specs.Right.{IsRight}
use Rattle.q_session.specs.declared.ran.Ran.{Ran}
use Rattle.q_session.specs.declared.job.Job.{Job}
use Rattle.q_history.specs.declared.event.ClusterEvent.{ClusterEvent}
use Rattle.q_history.specs.declared.event.ClusterEvent.TheVariants as event
use Rattle.q_history.specs.declared.event.ClusterStep.{ClusterStep}
use Rattle.reasons.specs.declared.Reason.{Reason}
use Rattle.reasons.specs.declared.Reason.TheVariants.{OutOfMemory as memory}
use Rattle.q_history.specs.Headline.{ClusterState}
use Rattle.q_history.specs.Clusters.{stepped, start, started}

-- the right answer of a job
abbrev pub Answers : Job → Ran → Type 0
Answers j ran = IsRight j.certified j.view j.start ran

-- the right answer of the job that an event finishes; other events ask for none
abbrev pub AnswersTo : ClusterState → ClusterEvent → Ran → Type 0
AnswersTo c (event.Finish number) ran = IfSome (slice_get c.jobs number) (λ j. Answers j ran)
AnswersTo c e ran = Unit {0}

-- the event is accepted, tells this and leads to that cluster
pub record Follows (c : ClusterState) (e : ClusterEvent) (told : ClusterStep) (d : ClusterState) : Type 0 where
  pub ran : Ran
  pub right : AnswersTo c e ran
  pub stepped : stepped ran c e ≡ Ok (told, d)

-- The event is accepted; or it is refused, whatever the answer of a job is, and the cluster is as it was; or memory
-- was refused.
abbrev pub Takes : ClusterState → ClusterEvent → ClusterState → Result ClusterStep Reason → Type 0
Takes old e new (Ok told) = Follows old e told new
Takes old e new (Err f) = (new ≡ old) × (f ≢ memory → (ran : Ran) → stepped ran old e ≡ Err f)

-- one cluster leads to another by accepted events
abbrev pub Reaches : ClusterState → List ClusterEvent → ClusterState → Type 0
Reaches c [] d = d ≡ c
Reaches c (e ∷ es) d = (told : ClusterStep) × (between : ClusterState) × Follows c e told between × Reaches between es d

-- The events are accepted in turn, all of them, or those before the first one that is refused, which is named by its
-- place.
abbrev pub Runs : ClusterState → List ClusterEvent → ClusterState → Result (Unit {0}) (ℕ × Reason) → Type 0
Runs old es new (Ok _) = Reaches old es new
Runs old es new (Err r) =
    Reaches old (take r.0 es) new
    × ((e : ClusterEvent) × (slice_get es r.0 ≡ Some e) × (r.1 ≢ memory → (ran : Ran) → stepped ran new e ≡ Err r.1))

-- the cluster is what some events made of its founders, who were not refused
abbrev pub IsHistory : ClusterState → Type 0
IsHistory c =
    (es : List ClusterEvent)
    × Reaches (start c.version c.past.config c.past.founders) es c
    × (started c.version c.past.config c.past.founders ≡ Ok (start c.version c.past.config c.past.founders))
